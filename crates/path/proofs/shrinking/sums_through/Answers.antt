use Rattle.std.proofs.Common.{◌≡◌, ℕ, ◌<◌, ◌≤◌, Some, None, Option, arith, rules, MatchOption}
use Rattle.std.proofs.lemmas.Iterator.{first_from_Range}
use Rattle.path.specs.Unfolding.{Sums}
use Rattle.path.proofs.shrinking.sums_through.Goals as goal

-- the first number below the end that passes is one below any bound that is the end
found_below : (end states : ℕ) (Yes : ℕ → Type 0) (r : Option ℕ) → end ≡ states → MatchOption r ((k : ℕ) → 0 ≤ k → k < end → Yes k → ⊥) (λ i. (0 ≤ i) × (i < end) × Yes i × ((k : ℕ) → 0 ≤ k → k < i → Yes k → ⊥))
    → MatchOption r ((u : ℕ) → u < states → Yes u → ⊥) (λ u. (u < states) × Yes u)
found_below end states Yes None e none = λ u l y. none u (omega arith) (omega arith) y
found_below end states Yes (Some i) e (low, l, y, first) = (omega arith, y)

pub returns : goal.returns
returns c =
    let Through : ℕ → Type 0 = Sums c.args.table.now c.args.left c.args.right c.args.span.from c.args.span.to c.args.span.worth in
    found_below _ _ Through c.find.result c.states.ensures (first_from_Range _ _ _ c.find.result Through (λ u. Through u → ⊥) c.find.ensures.ran (λ x q k. search rules) (λ x q k. search rules))
