-- Each slice takes its part. Assumes nothing.
use Rattle.std.proofs.Common.{[], ◌∷◌}
use lib.Dec.{lit<}
use Rattle.file_delivery.proofs.Delivery.{fit_or_not, either, put_flows, put_column}
use Rattle.file_delivery.proofs.deliver.Goals as goal

pub returns : goal.returns
returns c =
    λ marks s o e h.
    let d = fit_or_not _ (_ ∷ _ ∷ _ ∷ _ ∷ _ ∷ _ ∷ _ ∷ []) _ s o e in
    record {
      flows = put_flows o _ h _ _ (either (λ f. f.0) d) c.put_part.ensures;
      final_demand = put_column o _ h 0 (lit< tt) _ _ (either (λ f. f.1.0) d) c.put_part-2.ensures;
      exports = put_column o _ h 1 (lit< tt) _ _ (either (λ f. f.1.1.0) d) c.put_part-3.ensures;
      imports = put_column o _ h 2 (lit< tt) _ _ (either (λ f. f.1.1.1.0) d) c.put_part-4.ensures;
      value_added = put_column o _ h 3 (lit< tt) _ _ (either (λ f. f.1.1.1.1.0) d) c.put_part-5.ensures;
      production = put_column o _ h 4 (lit< tt) _ _ (either (λ f. f.1.1.1.1.1.0) d) c.put_part-6.ensures;
      adjustment = put_column o _ h 5 (lit< tt) _ _ (either (λ f. f.1.1.1.1.1.1.0) d) c.put_part-7.ensures;
      rises = put_column o _ h 6 (lit< tt) _ _ (either (λ f. f.1.1.1.1.1.1.1.0) d) c.put_part-8.ensures;
    }
