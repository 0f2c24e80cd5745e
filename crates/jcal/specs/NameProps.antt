-- The name in a line that is told of has one proof at most, so it may be a ghost field.
use Rattle.std.specs.Prelude.{ℕ, List}
use Rattle.std.proofs.Props.{props}
use Rattle.jcal.specs.Events.{NameOf}
use Rattle.jcal.specs.declared.events.LineKind.{LineKind}
use Rattle.jcal.specs.declared.events.LineKind.TheVariants.{Opens, Closes, Plain, Broken}

pub name-prop : (s : List ℕ) (e : ℕ) (k : LineKind) → IsProp (NameOf s e k)
name-prop s e (Opens n) = Prim.hlevel props
name-prop s e (Closes n) = Prim.hlevel props
name-prop s e Plain = Prim.hlevel props
name-prop s e Broken = Prim.hlevel props
