-- What lookups see of the tables that are told.
use Rattle.std.proofs.Common.{◌≡◌, ◌<◌, ℕ, Bool, true, false, List, [], ◌∷◌, length, Option, Some, slice_get, refl, sym, ap, ◌∙◌, arith, if◌then◌else◌, inl, inr}
use Rattle.std.specs.FinMap as finmap
use Rattle.std.specs.FinMap.{len-empty, len-entries}
use Rattle.std.proofs.lemmas.Bool.{cond-true, cond-false, eq-eqb, cases_Bool}
use Rattle.std.proofs.lemmas.List.{get_or-map, take_all, nil_from_length}
use Rattle.std.proofs.lemmas.Option.{unwrap_or-slice_get}
use Rattle.state_store.specs.declared.object.Kind.{Kind}
use Rattle.state_store.specs.declared.object.ObjectDecl.{ObjectDecl}
use Rattle.state_store.specs.Kept.{IsKept, IsKeptObject}
use Rattle.state_store.specs.Kinds.{is_table}
use Rattle.state_store.specs.Store.{Contents, Object, Store, is_full, is_out, key_cmp, no_object, object_at, put_row, start_object}
use Rattle.flat_ir.specs.Program.{Program}
use Rattle.split_model.specs.declared.split.Part.{Part}
use Rattle.split_model.specs.Laws.{ShowsReplicated, HasDeclaredTables}
use Rattle.split_model.specs.Shown.{is_replicated}
use Rattle.writeback_table.specs.declared.command.Command.{Command}
use Rattle.writeback_table.specs.declared.command.Command.TheVariants.{Stage, Main}
use Rattle.writeback_table.specs.declared.command.To.{To}
use Rattle.writeback_table.specs.declared.command.To.TheVariants.{Value, Gone}
use Rattle.writeback_table.specs.Batches.{seen_after}
use Rattle.writeback_table.specs.Commands.{bit_through, names, pair_after, pair_through, room_for}
use Rattle.writeback_table.specs.Pair.{Pair, Staged, applied, change_to, has_room, visible, with_staged, first_pair}
use Rattle.split_answers.specs.Whole.{IsSplit}
use Rattle.switch_ir.specs.Emitted.{emitted, is_looked_up}
use Rattle.switch_ir.specs.Port.{IsCommandOf, IsReplicatedIn}
use Rattle.switch_ir.specs.Tables.{Told, has_room_in, no_pair, pair_at, seen_object, seen_tables, start_pair, view_of}
use Rattle.split_answers.specs.Through.{IsThrough}
use Rattle.split_answers.specs.UnderWay.{AreShown}
use Rattle.switch_ir.proofs.Declared.{can_change, declared_parts, declared_there, replicated_parts, shown_there}
use Rattle.lemmas.proofs.Lists.{get_within}
use Rattle.state_store.proofs.Constants.{constant_at}
use Rattle.switch_ir.proofs.Soundness.{starts}

-- ## Replicated objects and those that are declared on the switch

pub is_declared : (f : Program) (split : List Part) (writeback o : ℕ) → IsSplit f split writeback → is_replicated f split o ≡ true → (d : ObjectDecl) × IsReplicatedIn (emitted f split writeback) o d
is_declared f split writeback o is shown =
    let parts = replicated_parts f split o shown in
    let found = get_within f.objects o (shown_there f split o is.bounded.formed parts.1) in (
      found.0,
      record {
        declared = declared_there f split o found.0 parts.2 found.1;
        changes = sym (constant_at f.objects o found.0 found.1) ∙ parts.0;
      },
    )

pub is_replicated_there : (f : Program) (split : List Part) (writeback o : ℕ) (d : ObjectDecl) → IsSplit f split writeback → IsReplicatedIn (emitted f split writeback) o d → is_replicated f split o ≡ true
is_replicated_there f split writeback o d is there =
    let parts = declared_parts f split o d there.declared in can_change f split o d is.legal parts.0 parts.1 there.changes

-- ## Start tables

abbrev starting : ObjectDecl → ℕ → Pair
starting d writeback = start_pair writeback (Some d)

-- lookups see them, whatever the bit
sees_start : (bit : Bool) (d : ObjectDecl) (writeback : ℕ) → visible bit (starting d writeback) ≡ (start_object d).contents
sees_start false d writeback = refl
sees_start true d writeback =
    let none : Staged = finmap.empty in
    ap (λ staged. with_staged staged (start_object d).contents) (nil_from_length (finmap.entries none) (sym (len-entries none) ∙ len-empty key_cmp (Option (List ℕ))))

-- the world begins with the same
pub same_start : (f : Program) (split : List Part) (writeback o : ℕ) (d : ObjectDecl) → slice_get f.objects o ≡ Some d → is_table d.kind ≡ false
    → first_pair f.objects writeback o ≡ starting d writeback
same_start f split writeback o d is changes =
    let P : Object → ℕ → Pair = λ x n. record { main = x; staged = finmap.empty; room = n } in
    ap (λ x. P x writeback) (starts f.objects o d is)
    ∙ ap (P (start_object d)) (sym (cond-false (is_table d.kind) 0 writeback changes))

-- ## Commands change the contents alone

abbrev holding : Contents → Object → Object
holding contents object = record object { contents = contents }

holds_put : (object : Object) (key values : List ℕ) (contents : Contents) → holding contents (put_row object key values) ≡ holding contents object
holds_put object key values contents = by_tests (is_out object.kind object.size key) (is_full object key)
  where
    by_tests : (out full : Bool) → holding contents (if out then object else (if full then object else record object { contents = finmap.insert object.contents key values })) ≡ holding contents object
    by_tests true full = refl
    by_tests false true = refl
    by_tests false false = refl

holds_change : (object : Object) (key : List ℕ) (to : To) (contents : Contents) → holding contents (change_to object key to) ≡ holding contents object
holds_change object key (Value values) contents = holds_put object key values contents
holds_change object key Gone contents = refl

holds_applied : (pair : Pair) (command : Command) (contents : Contents) → holding contents (applied pair command).main ≡ holding contents pair.main
holds_applied pair (Main update) contents = holds_change pair.main update.key update.to contents
holds_applied pair command contents = refl

holds_after : (o : ℕ) (pair : Pair) (command : Command) (contents : Contents) → holding contents (pair_after o pair command).main ≡ holding contents pair.main
holds_after o pair command contents = elim (cases_Bool (names o command)) [ inl t ↦ rw t (holds_applied pair command contents) | inr t ↦ rw t refl ]

holds_through : (o : ℕ) (pair : Pair) (commands : List Command) (contents : Contents) → holding contents (pair_through o pair commands).main ≡ holding contents pair.main
holds_through o pair [] contents = refl
holds_through o pair (c ∷ cs) contents = holds_through o (pair_after o pair c) cs contents ∙ holds_after o pair c contents

-- an object that is kept is one as declared, with its own contents
as_declared : (d : ObjectDecl) (object : Object) → IsKeptObject d object → holding object.contents (start_object d) ≡ object
as_declared d object kept =
    let P : (kind : Kind) (size count : ℕ) → Object = λ kind size count. record { kind = kind; size = size; count = count; contents = object.contents } in
    ap (λ k. P k d.size (length d.values)) (sym kept.kind) ∙ ap (λ n. P object.kind n (length d.values)) (sym kept.size) ∙ ap (P object.kind object.size) (sym kept.count)

-- ## The tables that lookups see

object_viewed : (bit : Bool) (pairs : List Pair) (o : ℕ) → o < length pairs → object_at (view_of bit pairs) o ≡ seen_object bit (pair_at pairs o)
object_viewed bit pairs o within =
    unwrap_or-slice_get (view_of bit pairs) o no_object
    ∙ get_or-map (seen_object bit) pairs o no_pair no_object within
    ∙ ap (seen_object bit) (sym (unwrap_or-slice_get pairs o no_pair))

seen_all : (o : ℕ) (pair : Pair) (commands : List Command) → seen_after o pair commands (length commands) ≡ visible (bit_through false commands) (pair_through o pair commands)
seen_all o pair commands = ap (λ cs. visible (bit_through false cs) (pair_through o pair cs)) (take_all (length commands) commands (omega arith))

module _ (f : Program) (split : List Part) (writeback : ℕ) (is : IsSplit f split writeback) (commands : List Command) (told : Told) (through : IsThrough (emitted f split writeback) commands told) where
  -- constant tables have their declared rows, whatever the bit
  pub constant_viewed : (bit : Bool) (o : ℕ) (d : ObjectDecl) → slice_get f.objects o ≡ Some d → is_table d.kind ≡ true → is_looked_up f split o ≡ true
      → object_at (view_of bit told.pairs) o ≡ start_object d
  constant_viewed bit o d at table looked =
      let there = declared_there f split o d looked at in
      object_viewed bit told.pairs o (through.there o d there)
      ∙ ap (seen_object bit) (through.constant o d there table)
      ∙ ap (λ contents. holding contents (start_object d)) (sees_start bit d writeback)

  pub is_loaded : HasDeclaredTables f split (seen_tables told)
  is_loaded = record { rows = constant_viewed told.bit }

  -- the pair of a replicated object is the world's
  pub pair_is : (o : ℕ) → is_replicated f split o ≡ true → pair_at told.pairs o ≡ pair_through o (first_pair f.objects writeback o) commands
  pair_is o shown =
      let d = is_declared f split writeback o is shown in
      through.pairs o d.0 d.1 ∙ ap (λ p. pair_through o p commands) (sym (same_start f split writeback o d.0 (declared_parts f split o d.0 d.1.declared).1 d.1.changes))

  -- by the bit that stands now, lookups see what the world says
  pub seen_now : (o : ℕ) → visible told.bit (pair_through o (first_pair f.objects writeback o) commands) ≡ seen_after o (first_pair f.objects writeback o) commands (length commands)
  seen_now o =
      ap (λ b. visible b (pair_through o (first_pair f.objects writeback o) commands)) through.bit
      ∙ sym (seen_all o (first_pair f.objects writeback o) commands)

  pub contents_seen : (o : ℕ) → is_replicated f split o ≡ true
      → visible told.bit (pair_at told.pairs o) ≡ seen_after o (first_pair f.objects writeback o) commands (length commands)
  contents_seen o shown = ap (visible told.bit) (pair_is o shown) ∙ seen_now o

  -- where lookups by a bit see the rows of a store that is kept, they see its object
  pub replicated_viewed : (bit : Bool) (st : Store) (o : ℕ) → is_replicated f split o ≡ true → visible bit (pair_through o (first_pair f.objects writeback o) commands) ≡ (object_at st o).contents
      → IsKept f.objects st → object_at (view_of bit told.pairs) o ≡ object_at st o
  replicated_viewed bit st o shown sees kept =
      let d = is_declared f split writeback o is shown in
      let at : slice_get f.objects o ≡ Some d.0 = (declared_parts f split o d.0 d.1.declared).1 in
      let x : Object = object_at st o in
      object_viewed bit told.pairs o (through.there o d.0 d.1.declared)
      ∙ ap (λ c. holding c (pair_at told.pairs o).main) (ap (visible bit) (pair_is o shown) ∙ sees)
      ∙ ap (λ (p : Pair). holding x.contents p.main) (through.pairs o d.0 d.1)
      ∙ holds_through o (starting d.0 writeback) commands x.contents
      ∙ as_declared d.0 x (kept.each o d.0 at)

  pub has_replicated : (st : Store) → AreShown f split writeback commands st → IsKept f.objects st → ShowsReplicated f split st (seen_tables told)
  has_replicated st seen kept o shown = replicated_viewed told.bit st o shown (seen_now o ∙ seen o shown) kept

  -- ## Room

  has_room_there : (o : ℕ) (d : ObjectDecl) (command : Command) → names o command ≡ true → IsReplicatedIn (emitted f split writeback) o d
      → ((k : ℕ) → is_replicated f split k ≡ true → room_for k (pair_through k (first_pair f.objects writeback k) commands) command ≡ true)
      → has_room (pair_at told.pairs o) command ≡ true
  has_room_there o d command named there room =
      let shown = is_replicated_there f split writeback o d is there in
      let pair : Pair = pair_through o (first_pair f.objects writeback o) commands in
      ap (λ p. has_room p command) (pair_is o shown)
      ∙ sym (cond-true (names o command) (has_room pair command) true named)
      ∙ room o shown

  pub room_found : (command : Command) → IsCommandOf (emitted f split writeback) command
      → ((o : ℕ) → is_replicated f split o ≡ true → room_for o (pair_through o (first_pair f.objects writeback o) commands) command ≡ true)
      → has_room_in told.pairs command ≡ true
  room_found (Stage update) own room = has_room_there update.object own.0 (Stage update) (eq-eqb update.object update.object refl) own.1 room
  room_found (Main update) own room = has_room_there update.object own.0 (Main update) (eq-eqb update.object update.object refl) own.1 room
  room_found command own room = refl
