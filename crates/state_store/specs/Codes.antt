-- The codes by which stores are told apart, so that they may be the value of a model.
use Rattle.std.specs.Prelude.{◌≡◌, ℕ, Bool, true, false, refl}
use Rattle.std.specs.Coded.{Coded, code_by, coded×, coded_bool, coded_ℕ, coded_list}
use Rattle.std.specs.FinMap as map
use Rattle.state_store.specs.declared.object.Kind.{Kind}
use Rattle.state_store.specs.declared.object.Kind.TheVariants.{Table, Map, Vector, Int}
use Rattle.state_store.specs.Store.{Contents, Object, Store}

-- a kind as two truth values
abbrev kind_bits : Kind → Bool × Bool
kind_bits Table = (false, false)
kind_bits Map = (false, true)
kind_bits Vector = (true, false)
kind_bits Int = (true, true)

abbrev bits_kind : Bool × Bool → Kind
bits_kind (false, false) = Table
bits_kind (false, true) = Map
bits_kind (true, false) = Vector
bits_kind (true, true) = Int

pub kind_back : (kind : Kind) → bits_kind (kind_bits kind) ≡ kind
kind_back Table = refl
kind_back _ = refl

abbrev pub kind_code : Coded Kind
kind_code = code_by (Bool × Bool) (coded× coded_bool coded_bool) kind_bits bits_kind kind_back

-- contents as the list of their entries
abbrev pub contents_code : Coded Contents
contents_code = map.code (coded_list coded_ℕ) (coded_list coded_ℕ)

-- an object as its fields
abbrev pub object_code : Coded Object
object_code =
    code_by ((Kind × ℕ) × (ℕ × Contents)) (coded× (coded× kind_code coded_ℕ) (coded× coded_ℕ contents_code))
    (λ o. ((o.kind, o.size), (o.count, o.contents)))
    (λ p. record { kind = p.0.0; size = p.0.1; count = p.1.0; contents = p.1.1 }) (λ _. refl)

abbrev pub store_code : Coded Store
store_code = coded_list object_code
