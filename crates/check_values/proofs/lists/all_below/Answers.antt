-- `check_values::lists::all_below` meets its contract. Assumes nothing.
use Rattle.std.proofs.Common.{Bool, ◌&&◌, ltb, refl, ◌∙◌, rules, tests}
use Rattle.std.specs.List.{list_all}
use Rattle.std.proofs.lemmas.Iterator.{YieldsList-from_slice}
use Rattle.std.proofs.lemmas.Iterator.Search.{all_from_yields_List}
use Rattle.std.proofs.lemmas.List.Recursion.{same_from_clauses}
use Rattle.job.specs.Checks.{all_below}
use Rattle.check_values.proofs.lists.all_below.Goals as goal

pub returns : goal.returns
unfolding all_below
returns c =
    let xs = c.args.members.now in
    let n = c.args.n in
    all_from_yields_List (λ m. ltb m n) _ _ _ c.all.ensures.ran (YieldsList-from_slice xs cc) (λ x b q k. search (rules, tests))
    ∙ same_from_clauses (list_all (λ m. ltb m n)) (all_below n) (λ m (b : Bool). ltb m n && b) refl (λ _ _. refl) (λ _ _. refl) xs
