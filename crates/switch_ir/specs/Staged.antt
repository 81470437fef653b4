-- A pass that is under way, between its stages: what it knows, and what it answers at last.
use Rattle.std.specs.Prelude.{◌≡◌, ℕ, suc, nat_le, nat_lt, Bool, true, false, ◌&&◌, List, []}
use Rattle.std.specs.Prelude.{Option, Some, IsSome, unwrap_or, ⊤}
use Rattle.std.specs.List.{list_any}
use Rattle.packet_fields.specs.declared.packet.Packet.{Packet}
use Rattle.state_store.specs.Store.{Store, object_at}
use Rattle.flat_ir.specs.declared.program.ValueId.{ValueId}
use Rattle.flat_ir.specs.Blocks.{Reading}
use Rattle.split_model.specs.declared.layout.Crossing.{Crossing}
use Rattle.split_model.specs.Crossing.{is_value}
use Rattle.split_model.specs.Shown.{looks_at}
use Rattle.transfer_header.specs.Frames.{up_frame}
use Rattle.switch_ir.specs.declared.code.Table.{Table}
use Rattle.switch_ir.specs.Meaning.{is_step, after_stage, after_stages, leaves, goes_up}
use Rattle.switch_ir.specs.Passes.{Step, PassCode, Code}
use Rattle.switch_ir.specs.Spans.{last_read, written_in, Written}
use Rattle.switch_ir.specs.declared.port.UpEnd.{UpEnd}
use Rattle.switch_ir.specs.declared.port.UpEnd.TheVariants as up
use Rattle.switch_ir.specs.declared.port.DownEnd.{DownEnd}
use Rattle.switch_ir.specs.declared.port.DownEnd.TheVariants as down

-- ## What a pass knows

-- numbers of some values
abbrev pub Numbers : Type 0
Numbers = ValueId → Option ℕ

-- those numbers as a reading; a value that was not kept counts as 0
abbrev pub known : Numbers → Reading
known numbers v = unwrap_or (numbers v) 0

-- A pass: its code, the objects that it looks up, the layout that hands values to it, and the one that takes values up.
pub record Staging : Type 0 where
  pub code : PassCode
  pub tables : List Table
  pub handed : List Crossing
  pub layout : List Crossing

abbrev pub pre_staging : Code → Staging
pre_staging code = record { code = code.pre; tables = code.tables; handed = []; layout = code.up }

abbrev pub post_staging : Code → Staging
post_staging code = record { code = code.post; tables = code.tables; handed = code.down; layout = [] }

-- the pass before the server, or behind it
abbrev pub staging : Bool → Code → Staging
staging true code = pre_staging code
staging false code = post_staging code

-- the values that a pass has; what it is given counts as one of stage 0
abbrev pub all_values : Staging → List Written
all_values p = written_in p.tables p.handed p.code

-- the pass has the value once the stages up to t are done
abbrev pub is_had : Staging → ℕ → ValueId → Bool
is_had p t v = list_any (λ (w : Written). nat_le w.stage t && is_value w.value v) (all_values p)

-- The value is read later: by a stage above t, or once all stages are done, by the frame that takes it up, by the test
-- whether the packet goes up, or by what becomes of the packet.
abbrev pub is_read_later : Staging → ℕ → ValueId → Bool
is_read_later p t v = nat_lt t (last_read p.layout p.code v)

-- an instruction of stage t gives the value
abbrev pub is_of_stage : List Step → ℕ → ValueId → Bool
is_of_stage steps t v = list_any (λ s. is_step s t v) steps

-- ## Stage by stage

-- the numbers are of each value that the pass has once the stages up to t are done, and that is read later
abbrev pub KeepsEnough : Staging → ℕ → Numbers → Type 0
KeepsEnough p t numbers = (v : ValueId) → is_had p t v ≡ true → is_read_later p t v ≡ true → IsSome (numbers v)

-- the numbers are of no other values than those that the pass has then
abbrev pub KeepsOwn : Staging → ℕ → Numbers → Type 0
KeepsOwn p t numbers = (v : ValueId) → IsSome (numbers v) → is_had p t v ≡ true

-- What a pass knows at its entry, over these tables: numbers that stage 0 gives, from what it is given.
pub record IsEntered (p : Staging) (given : Reading) (view : Store) (packet : Packet) (numbers : Numbers) : Type 0 where
  pub enough : KeepsEnough p 0 numbers
  pub own : KeepsOwn p 0 numbers
  pub right : (v : ValueId) (n : ℕ) → numbers v ≡ Some n → n ≡ after_stage p.code.steps 0 given view packet v

-- What a pass knows after stage t, over these tables, from what it knew before.
pub record IsStaged (p : Staging) (t : ℕ) (old : Numbers) (view : Store) (packet : Packet) (new : Numbers) : Type 0 where
  pub enough : KeepsEnough p t new
  pub own : KeepsOwn p t new
  -- a value of an earlier stage was known, with the same number
  pub earlier : (v : ValueId) (n : ℕ) → is_of_stage p.code.steps t v ≡ false → new v ≡ Some n → old v ≡ Some n
  -- a value of this stage is what the stage gives, from what was known
  pub newest : (v : ValueId) (n : ℕ) → is_of_stage p.code.steps t v ≡ true → new v ≡ Some n
      → n ≡ after_stage p.code.steps t (known old) view packet v

-- the numbers with which a pass ends whose last stage is t: those of that stage, over what was known before it
abbrev pub last_numbers : Staging → ℕ → Numbers → Store → Packet → Reading
last_numbers p t old view packet = after_stage p.code.steps t (known old) view packet

-- ## Over tables

abbrev pub is_looked_at : List Step → ℕ → Bool
is_looked_at steps o = list_any (λ (s : Step). looks_at o s.work) steps

-- lookups of the pass find the same in both
abbrev pub Sees : Staging → Store → Store → Type 0
Sees p view tables = (o : ℕ) → is_looked_at p.code.steps o ≡ true → object_at view o ≡ object_at tables o

-- A pass knows, once the stages up to t are done, what the whole pass over these tables computes.
pub record IsOver (p : Staging) (given : Reading) (tables : Store) (packet : Packet) (t : ℕ) (numbers : Numbers)
    : Type 0 where
  pub enough : KeepsEnough p t numbers
  pub right : (v : ValueId) (n : ℕ) → numbers v ≡ Some n
      → n ≡ after_stages p.code.steps given tables packet (suc t) v

-- what the pass doesn't have once the stages up to t are done counts as 0
abbrev pub HasNoMore : Staging → Reading → Store → Packet → Type 0
HasNoMore p given tables packet =
    (t : ℕ) (v : ValueId) → is_had p t v ≡ false → after_stages p.code.steps given tables packet (suc t) v ≡ 0

-- ## Answers

-- what becomes of a packet that arrives, by the last numbers of its pass
abbrev pub EndsBy : Code → Reading → ℕ → Packet → UpEnd → Type 0
EndsBy code reads number packet (up.Finished verdict) =
    (goes_up code reads ≡ false) × (verdict ≡ leaves code.pre reads packet)
EndsBy code reads number packet (up.Up frame) =
    (goes_up code reads ≡ true) × (frame ≡ up_frame code.up number packet.port reads packet.bytes)
EndsBy code reads number packet _ = ⊤

-- what becomes of a packet that comes down
abbrev pub EndsDownBy : Code → Reading → Packet → DownEnd → Type 0
EndsDownBy code reads packet (down.Verdict verdict) = verdict ≡ leaves code.post reads packet
EndsDownBy code reads packet _ = ⊤
