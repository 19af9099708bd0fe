use Rattle.std.proofs.Common.{◌≡◌, ℕ, rules, arith, subst, sym, ◌∙◌, ◌≤◌, take, length-take, sum_by, bit_and}
use lib.Count.{ones}
use Rattle.std.proofs.lemmas.Iterator.{YieldsList-from_slice}
use Rattle.std.proofs.lemmas.Iterator.Adapters.{fits_from_length, at_most_from_yields_List}
use Rattle.relations.proofs.Counting.{low_summed, low_few}
use Rattle.relations.proofs.rows.Relation.statement_pairs.Goals as goal

pub sum-requires-clause-fits : goal.sum-requires-clause-fits
sum-requires-clause-fits c = fits_from_length _ _ 32 _ (at_most_from_yields_List (YieldsList-from_slice (take 32 c.args.self.now.rows) (cc)) (omega (arith, length-take 32 c.args.self.now.rows))) c.map.ensures.closure (omega arith) (λ x r q k. search rules)

pub returns : goal.returns
returns c =
    let rows = c.args.self.now.rows in
    let total : c.sum.result ≡ sum_by (λ (row : ℕ). ones (bit_and row 4294967295)) (take 32 rows) = search rules in
    record {
      value = total ∙ low_summed rows 32 (omega (arith, c.args.self.now.full));
      bound = subst (λ (v : ℕ). v ≤ 1024) (sym total) (low_few rows);
    }
