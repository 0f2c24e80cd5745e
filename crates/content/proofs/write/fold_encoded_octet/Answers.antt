-- `content::write::fold_encoded_octet` meets its contract.
use native.Mathlib.Omega.{arith}
use borrow.Author.Tests.{ne_eqb}
use Rattle.content.specs.Carets.{encoded_octet}
use Rattle.content.proofs.write.fold_encoded_octet.Goals as goal

pub returns-in-94 : goal.returns-in-94
unfolding encoded_octet
returns-in-94 c = rw c.in-94.is c.fold_all.ensures

pub returns-in-34 : goal.returns-in-34
unfolding encoded_octet
returns-in-34 c = rw c.in-34.is c.fold_all-in-34.ensures

pub returns-in-10 : goal.returns-in-10
unfolding encoded_octet
returns-in-10 c = rw c.in-10.is c.fold_all-in-10.ensures

pub returns-in_default : goal.returns-in_default
unfolding encoded_octet
returns-in_default c = let b = c.args.c in
    rw (ne_eqb b 94 (λ h. omega (arith, h)), ne_eqb b 34 (λ h. omega (arith, h)), ne_eqb b 10 (λ h. omega (arith, h))) c.fold_octet.ensures
