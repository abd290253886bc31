-- `page_text::put_decimal` meets its contract: the digits of the tenth, and then the last digit.
use Rattle.std.proofs.Common.{[], ◌∷◌, ◌≡◌, ℕ, ◌+◌, ◌/◌, ◌%◌, ◌<◌, ◌≤◌, ap, arith, length, length-append, ◌∙◌}
use Rattle.model.specs.Text.{decimal}
use Rattle.theory.proofs.Stores.{begin, go_on, done}
use Rattle.theory.proofs.Decimals.{decimal-one, decimal_more}
use Rattle.page_text.proofs.+put_decimal.Goals as goal

one_long : (n : ℕ) → n < 10 → length (decimal n) ≡ 1
one_long n h = ap length (decimal-one n h)

more_long : (n : ℕ) → 10 ≤ n → length (decimal n) ≡ length (decimal (n / 10)) + 1
more_long n h = ap length (decimal_more n h) ∙ length-append (decimal (n / 10)) ((48 + n % 10) ∷ [])

pub put_byte-requires : goal.put_byte-requires
put_byte-requires t c = omega (arith, one_long c.args.amount c.if-amount-lt10.true)

pub returns-then-amount-lt10 : goal.returns-then-amount-lt10
returns-then-amount-lt10 t c = record {
  value = omega (arith, one_long c.args.amount c.if-amount-lt10.true);
  out_after = rw (decimal-one c.args.amount c.if-amount-lt10.true) c.put_byte.ensures.out_after;
}

pub put_decimal-next-requires : goal.put_decimal-next-requires
put_decimal-next-requires t c = (omega arith, omega (arith, more_long c.args.amount c.if-amount-lt10.false))

pub put_byte-requires-2 : goal.put_byte-requires-2
put_byte-requires-2 t c = omega (arith, more_long c.args.amount c.if-amount-lt10.false)

pub returns : goal.returns
returns t c =
    let a = c.args in
    let digits = c.put_decimal-next.ensures in
    let last = c.put_byte-2.ensures in
    let left = go_on (decimal (a.amount / 10)) ((48 + a.amount % 10) ∷ []) (decimal_more a.amount c.if-amount-lt10.false) (begin (decimal a.amount) a.at a.out.now) (digits.value, digits.out_after) in
    let w = done left (last.value, last.out_after) in
    record { value = w.0; out_after = w.1 }
