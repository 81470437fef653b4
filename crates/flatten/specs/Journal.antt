-- What was assigned since some place, and how it is taken back. Only proofs and private contracts need it.
use Rattle.std.specs.Prelude.{◌≡◌, ◌≤◌, ℕ, suc, List, [], ◌∷◌, map, get_or, slice_set, Option, None}
use Rattle.std.specs.List.{Contains}
use Rattle.std.specs.List.Sorted.{IsStrictlyIncreasing}
use Rattle.flat_ir.specs.declared.program.ValueId.{ValueId}
use Rattle.flatten.specs.declared.entry.Entry.{Entry}
use Rattle.flatten.specs.declared.entry.Change.{Change}
use Rattle.flatten.specs.declared.place.Ending.{Ending}
use Rattle.flatten.specs.declared.place.Place.{Place}
use Rattle.flatten.specs.Flatten.{View, At, kept, merge_option, merge_id, merge_ids, merge_ended, field_widths}
use Rattle.flatten.specs.Pending.{placed}

-- how the state at some place is had again: what was assigned since then, the latest last, and the other variables there
pub record Past : Type 0 where
  pub entries : List Entry
  pub fields : List (Option ValueId)
  pub send : ValueId
  pub port : ValueId
  pub ended : Ending

-- that of a place from which on these were assigned
abbrev pub past_of : List Entry → View → Past
past_of es w = record { entries = es; fields = w.fields; send = w.send; port = w.port; ended = w.ended }

-- the values of the locals before they were assigned; the latest is taken back first
abbrev pub undone : List Entry → List (Option ValueId) → List (Option ValueId)
undone [] xs = xs
undone (e ∷ es) xs = slice_set (undone es xs) e.local e.before

-- the state before, from the one now
abbrev pub before : Past → View → View
before past w = record {
  locals = undone past.entries w.locals;
  fields = past.fields;
  send = past.send;
  port = past.port;
  ended = past.ended;
}

abbrev pub with_local : ℕ → Option ValueId → View → View
with_local x id w = record w { locals = slice_set w.locals x id }

abbrev pub with_locals : List (Option ValueId) → View → View
with_locals xs w = record w { locals = xs }

-- ## What two sides assigned

-- the locals of entries
abbrev pub entry_locals : List Entry → List ℕ
entry_locals = map (λ e. e.local)

-- numbers in rising order, which have the locals of both lists of entries
pub record AreAssigned (first second : List Entry) (xs : List ℕ) : Type 0 where
  pub rising : IsStrictlyIncreasing xs
  pub firsts : (x : ℕ) → Contains (entry_locals first) x → Contains xs x
  pub seconds : (x : ℕ) → Contains (entry_locals second) x → Contains xs x

abbrev pub value_or_none : List (Option ValueId) → ℕ → Option ValueId
value_or_none xs x = get_or xs x None

-- the values of a local on two sides
abbrev pub change_at : List (Option ValueId) → List (Option ValueId) → ℕ → Change
change_at first second x = record { local = x; first = value_or_none first x; second = value_or_none second x }

abbrev pub second_at : List (Option ValueId) → ℕ → Change
second_at second x = record { local = x; first = None; second = value_or_none second x }

abbrev pub with_first : List (Option ValueId) → Change → Change
with_first first c = record c { first = value_or_none first c.local }

-- the local is none of these
abbrev pub IsOther : ℕ → List Change → Type 0
IsOther x [] = Unit {0}
IsOther x (c ∷ cs) = (¬ (c.local ≡ x)) × IsOther x cs

-- in rising order, from a number on
abbrev pub AreRising : ℕ → List Change → Type 0
AreRising n [] = Unit {0}
AreRising n (c ∷ cs) = (n ≤ c.local) × AreRising (suc c.local) cs

abbrev pub AreOn : List (Option ValueId) → List (Option ValueId) → List Change → Type 0
AreOn first second [] = Unit {0}
AreOn first second (c ∷ cs) =
    (c.first ≡ value_or_none first c.local) × (c.second ≡ value_or_none second c.local) × AreOn first second cs

-- The changes are in rising order, and say what their locals are on two sides that began alike. Every other local is on
-- both sides what it was.
pub record AreSides (first second start : List (Option ValueId)) (cs : List Change) : Type 0 where
  pub on : AreOn first second cs
  pub rising : AreRising 0 cs
  pub firsts : (x : ℕ) → IsOther x cs → value_or_none first x ≡ value_or_none start x
  pub seconds : (x : ℕ) → IsOther x cs → value_or_none second x ≡ value_or_none start x

-- ## Two sides made one

-- the locals that changed, one after the other
abbrev pub merge_each : Place → ValueId → List ℕ → List Change → At → At
merge_each p v widths [] r = r
merge_each p v widths (c ∷ cs) r =
    let m = merge_option p v (get_or widths c.local 1) c.first c.second r.given in
    merge_each p v widths cs (placed m.given (with_local c.local m.id r.view))

-- the variables other than locals
abbrev pub merge_rest : Place → ValueId → Past → At → At
merge_rest p v a r =
    let fields = merge_ids p v field_widths a.fields r.view.fields r.given in
    let send = merge_id p v 1 a.send r.view.send fields.given in
    let port = merge_id p v 8 a.port r.view.port send.given in
    let ended = merge_ended p v a.ended r.view.ended port.given in
    record {
      given = ended.given;
      view = record {
        locals = r.view.locals;
        fields = fields.ids;
        send = send.id;
        port = port.id;
        ended = ended.ended;
      };
    }

-- the locals that were in scope before have their values, and the others none
abbrev pub leave_each : List Change → List (Option ValueId) → List (Option ValueId)
leave_each [] xs = xs
leave_each (c ∷ cs) xs = leave_each cs (slice_set xs c.local (kept c.first c.second))
