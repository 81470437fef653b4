-- What a report may say of a run of a middlebox whose objects are declared so. Nothing here says that it is true.
use Rattle.std.specs.Prelude.{◌≡◌, ◌<◌, ◌≤◌, ◌^◌, ℕ, suc, Bool, true, false, not, ◌&&◌, List, [], ◌∷◌, map, length}
use Rattle.std.specs.Prelude.{Some}
use Rattle.std.specs.Prelude.{if◌then◌else◌, IsTrue, nat_le, nat_lt, slice_get}
use Rattle.std.specs.Str.{bytes_eq}
use Rattle.std.specs.List.{AllByRecursion, list_all, list_any}
use Rattle.std.specs.declared.cmp.Ordering.TheVariants.{Less}
use Rattle.hex.specs.Hex.{IsBytes}
use Rattle.packet_fields.specs.declared.verdict.Verdict.{Verdict}
use Rattle.packet_fields.specs.declared.verdict.Verdict.TheVariants.{Drop, Send}
use Rattle.state_store.specs.declared.object.ObjectDecl.{ObjectDecl}
use Rattle.state_store.specs.declared.object.Row.{Row}
use Rattle.state_store.specs.Kinds.{is_table}
use Rattle.state_store.specs.Kept.{have_widths}
use Rattle.state_store.specs.Store.{key_cmp}
use Rattle.run_model.specs.declared.fate.Fate.{Fate}
use Rattle.run_model.specs.declared.fate.Fate.TheVariants.{Pass, Up, Held, Slow, Fast}
use Rattle.run_model.specs.declared.run.ObjectRows.{ObjectRows}
use Rattle.run_model.specs.declared.run.Run.{Run}

-- A name that a line can hold: no byte of it is a blank or ends a line.
abbrev pub is_plain : List ℕ → Bool
is_plain name = list_all (nat_lt 32) name

-- each width is from 1 to 64
abbrev pub are_widths : List ℕ → Bool
are_widths = list_all (λ w. nat_le 1 w && nat_le w 64)

-- the name, and the widths of its numbers
abbrev pub is_declared : ObjectDecl → Bool
is_declared object = is_plain object.name && are_widths object.keys && are_widths object.values

-- no two have one name
abbrev pub are_apart : List ObjectDecl → Bool
are_apart [] = true
are_apart (object ∷ objects) = not (list_any (λ other. bytes_eq object.name other.name) objects) && are_apart objects

-- objects that a source can declare, as far as a report tells of them
abbrev pub are_declared : List ObjectDecl → Bool
are_declared objects = nat_lt (length objects) (2 ^ 32) && list_all is_declared objects && are_apart objects

-- a number of a report, outside its rows
abbrev pub IsSmall : ℕ → Type 0
IsSmall n = n < 2 ^ 32

abbrev pub IsVerdict : Verdict → Type 0
IsVerdict Drop = Unit {0}
IsVerdict (Send port bytes) = (port ≤ 255) × IsBytes bytes

abbrev pub IsFate : Fate → Type 0
IsFate (Pass a) = IsSmall a
IsFate (Up a) = IsSmall a
IsFate (Held a d v) = IsSmall a × IsSmall d × IsSmall v
IsFate (Slow a d v r y) = IsSmall a × IsSmall d × IsSmall v × IsSmall r × IsVerdict y
IsFate (Fast a d v r y) = IsSmall a × IsSmall d × IsSmall v × IsSmall r × IsVerdict y

-- the row has the object's counts and widths
abbrev pub IsRowOf : ObjectDecl → Row → Type 0
IsRowOf object row = IsTrue (have_widths object.keys row.keys) × IsTrue (have_widths object.values row.values)

-- the first row of these, if there is one, has a greater key
abbrev pub IsBelow : List ℕ → List Row → Type 0
IsBelow key [] = Unit {0}
IsBelow key (row ∷ rows) = key_cmp key row.keys ≡ Less

-- their keys strictly rise, the first number first
abbrev pub AreRising : List Row → Type 0
AreRising [] = Unit {0}
AreRising (row ∷ rows) = IsBelow row.keys rows × AreRising rows

-- rows of an object that is no table
pub record IsPart (declared : List ObjectDecl) (part : ObjectRows) : Type 0 where
  pub object : ObjectDecl
  pub is : slice_get declared part.object ≡ Some object
  pub kind : is_table object.kind ≡ false
  pub few : IsSmall (length part.rows)
  pub rows : AllByRecursion (IsRowOf object) part.rows
  pub rising : AreRising part.rows

-- the numbers of the objects that are no tables, of those from number n on
abbrev pub kept_from : ℕ → List ObjectDecl → List ℕ
kept_from n [] = []
kept_from n (object ∷ objects) =
    if is_table object.kind then kept_from (suc n) objects else n ∷ kept_from (suc n) objects

-- the numbers of their objects strictly rise, from n on
abbrev pub AreInOrder : ℕ → List ObjectRows → Type 0
AreInOrder n [] = Unit {0}
AreInOrder n (part ∷ parts) = (n ≤ part.object) × AreInOrder (suc part.object) parts

-- A run that a report can tell: each number fits, the order line names as many admitted packets as were decided, in
-- any order and maybe again, and there is a part for each map, vector and integer, and a switch part for some.
pub record InForm (declared : List ObjectDecl) (run : Run) : Type 0 where
  pub total : IsSmall run.total
  pub admitted : IsSmall (length run.fates)
  pub decided : IsSmall run.decided
  pub released : IsSmall run.released
  pub events : IsSmall run.events
  pub idle : IsSmall run.idle
  pub version : IsSmall run.version
  pub visible : IsSmall run.visible
  pub fates : AllByRecursion IsFate run.fates
  pub ordered : length run.order ≡ run.decided
  pub order : AllByRecursion (λ n. n < length run.fates) run.order
  pub numbers : map (λ part. part.object) run.objects ≡ kept_from 0 declared
  pub server : AllByRecursion (IsPart declared) run.objects
  pub shown : AreInOrder 0 run.switch
  pub switch : AllByRecursion (IsPart declared) run.switch
