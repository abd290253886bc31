-- Sums, lists made by a rule, and matrices. Numbers are whole, 0 or above where nothing else is said, without an upper limit; a slice is the list
-- of its cells.
use Rattle.std.specs.Prelude.{Bool, true, false, ◌&&◌, List, [], ◌∷◌, map, ℕ, zero, suc, ◌+◌, ◌*◌, ◌/◌, ◌%◌, ◌^◌, max, eqb, ℤ, pos, get_or}

-- the cells of a slice, and a sheet of coefficients by row and column
abbrev pub Cells : Type 0
Cells = List ℕ

abbrev pub Sheet : Type 0
Sheet = ℕ → ℕ → ℕ

-- the cells of a slice of signed numbers, which may be below 0 (document 02, ticket 8): `pos k` is k, and `negsuc k` is -(k + 1)
abbrev pub SignedCells : Type 0
SignedCells = List ℤ

-- numbers that are 0 or above, as signed ones
abbrev pub signed : Cells → SignedCells
signed = map pos

-- "One", the unit of shares and coefficients: they are whole millionths
abbrev pub one : ℕ
one = 1_000_000

-- f 0 + .. + f (n - 1)
abbrev pub sum : ℕ → (ℕ → ℕ) → ℕ
sum zero f = 0
sum (suc n) f = sum n f + f n

-- the largest of f 0, .., f (n - 1); 0 where there is none
abbrev pub largest : ℕ → (ℕ → ℕ) → ℕ
largest zero f = 0
largest (suc n) f = max (largest n f) (f n)

-- the least i below n at which the test p fails; n where it passes at all of them
abbrev pub first : ℕ → (ℕ → Bool) → ℕ
first zero p = 0
first (suc n) p = elim (p 0) [ true ↦ suc (first n (λ i. p (suc i))) | false ↦ 0 ]

-- the test passes at every number of a list
abbrev pub all : (ℕ → Bool) → Cells → Bool
all p [] = true
all p (x ∷ xs) = p x && all p xs

-- f 0, .., f (n - 1): numbers, signed numbers, or slices
abbrev pub tabulate : {A : Type 0} → ℕ → (ℕ → A) → List A
tabulate zero f = []
tabulate (suc n) f = f 0 ∷ tabulate n (λ i. f (suc i))

-- the number at place i of a list; 0 past its end
abbrev pub cell : Cells → ℕ → ℕ
cell xs i = get_or xs i 0

-- two columns are the same in every sector
abbrev pub same : ℕ → Cells → Cells → Bool
same zero a b = true
same (suc n) a b = same n a b && eqb (cell a n) (cell b n)

-- n rows of n cells, row by row, as a function of row and column
abbrev pub at : ℕ → Cells → Sheet
at n d i j = cell d (i * n + j)

-- and such a function as n rows of n cells
abbrev pub matrix : ℕ → Sheet → Cells
matrix n c = tabulate (n * n) (λ k. c (k / n) (k % n))

-- rows and columns exchanged
abbrev pub transposed : Sheet → Sheet
transposed c i j = c j i

-- the sum of column j of n, and of all cells
abbrev pub column_sum : ℕ → Sheet → ℕ → ℕ
column_sum n c j = sum n (transposed c j)

abbrev pub all_cells : ℕ → Sheet → ℕ
all_cells n c = sum n (column_sum n c)

-- the direction of a matrix: down its columns, or along its rows
abbrev pub oriented : Bool → Sheet → Sheet
oriented true c = transposed c
oriented false c = c

-- the bit of a word at a position: 0 or 1
abbrev pub bit : ℕ → ℕ → ℕ
bit word position = word / 2 ^ position % 2

-- the positions of a 64-bit word, and how many of them are set: document 02, ticket 2, "the number of its set positions"
abbrev pub word_positions : ℕ
word_positions = 64

unfoldable pub set_positions : ℕ → ℕ
set_positions word = sum word_positions (bit word)
