-- What the Rust values of resolution stand for.
use Rattle.std.specs.Prelude.{ℕ, Vec, List, map}
use Rattle.std.specs.Global.{Global}
use Rattle.element_text.specs.declared.scope.KnownLocal.{KnownLocal}
use Rattle.element_text.specs.declared.scope.Scope.{Scope}
use Rattle.element_text.specs.Resolve.{Known, Env}

-- the local of this name
abbrev pub known_as : List ℕ → KnownLocal → Known
known_as word k = record { number = k.number; decl = record { name = word; width = k.width } }

abbrev pub known_of : Vec ℕ Global × KnownLocal → Known
known_of e = known_as e.0.items e.1

abbrev pub env_of : Scope → Env
env_of scope = record { objects = scope.objects; locals = scope.locals; scope = map known_of scope.known.entries }
