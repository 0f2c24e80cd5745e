-- `console::rest_is` meets its contract: the octets behind the place are tested one by one.
use Rattle.std.proofs.Common.{◌≡◌, ◌∙◌, ℕ, Bool, List, [], ◌∷◌, eqb, drop, refl, rules}
use Rattle.std.specs.List.{list_all}
use Rattle.std.proofs.lemmas.Iterator.{YieldsList-from_slice}
use Rattle.std.proofs.lemmas.Iterator.Adapters.{YieldsList-from_skip}
use Rattle.std.proofs.lemmas.Iterator.Search.{all_from_yields_List}
use Rattle.octets.specs.Basics.{all}
use Rattle.octets.proofs.Cases.{cases}
use Rattle.console.proofs.rest_is.Goals as goal

tested : (p : ℕ → Bool) (s : List ℕ) → list_all p s ≡ all p s
unfolding all
tested p [] = refl
tested p (x ∷ s) = cases (p x) (λ e. rw e (tested p s)) (λ e. rw e)

pub returns : goal.returns
returns c =
    all_from_yields_List (λ x. eqb x c.args.b) c.all.new.self _ _ c.all.ensures.ran (YieldsList-from_skip c.args.from (YieldsList-from_slice c.args.s.now cc) cc) (λ x b q k. search rules)
    ∙ tested (λ x. eqb x c.args.b) (drop c.args.from c.args.s.now)
