-- The tables of code keep what it declares, from their start on and under each of its commands.
use Rattle.std.proofs.Common.{◌≡◌, ◌≤◌, ◌+◌, ◌-◌, ℕ, Bool, true, false, cond, ◌&&◌, ◌||◌, List, nat_lt, Option, Some, None, refl, sym, ◌∙◌, subst, arith, zero}
use Rattle.std.proofs.Common.{suc, ◌∷◌, ap, slice_set, if◌then◌else◌}
use Rattle.std.specs.Ordering.{eq_by_cmp}
use Rattle.std.specs.FinMap.{FinMap, get, insert, remove, empty, len, contains_key, get-empty, get-insert, get-remove, len-empty, len-insert, len-remove}
use Rattle.std.proofs.lemmas.Bool.{and_from, and_parts, cond_both}
use Rattle.std.proofs.lemmas.Bool.Decides.{nat_tests}
use Rattle.std.proofs.lemmas.Cmp.{nat_list_cmp_total}
use Rattle.std.proofs.lemmas.Map.Lookups.{exact_bytes}
use Rattle.std.proofs.lemmas.Map.Views.{tells_apart}
use Rattle.std.proofs.lemmas.Option.{same_Some, none-some}
use Rattle.state_store.specs.declared.object.ObjectDecl.{ObjectDecl}
use Rattle.state_store.specs.Keeping.{put_keeps, del_keeps}
use Rattle.state_store.specs.Kept.{have_widths, IsKeptObject}
use Rattle.state_store.specs.Kinds.{is_table}
use Rattle.state_store.specs.Store.{key_cmp, Object, start_object}
use Rattle.writeback_table.specs.declared.command.To.{To}
use Rattle.writeback_table.specs.declared.command.To.TheVariants.{Value, Gone}
use Rattle.writeback_table.specs.declared.command.Update.{Update}
use Rattle.writeback_table.specs.declared.command.Command.TheVariants.{Stage, Main, Clear, On, Off}
use Rattle.writeback_table.specs.Pair.{Pair, applied, can_stage, change_to, values_of}
use Rattle.writeback_table.specs.Widths.{fits_update, has_value_widths}
use Rattle.switch_machine.specs.Kept.{staged_fits, KeepsRows, KeepsTables, AreSafe}
use Rattle.writeback_table.specs.declared.command.Command.{Command}
use Rattle.switch_ir.specs.Code.{Code}
use Rattle.switch_ir.specs.Port.{IsCommandOf}
use Rattle.switch_ir.specs.Sound.{CanBeRun}
use Rattle.switch_ir.specs.Tables.{Told, IsStart, declared_at, no_pair, pair_at, staging_room, start_pair, told_after, with_command}

-- ## Rows of a map, whatever their values

module _ {X : Type 0} (P : List ℕ → X → Type 0) where
  abbrev AllRows : FinMap key_cmp X → Type 0
  AllRows rows = (key : List ℕ) (row : X) → get rows key ≡ Some row → P key row

  pub row_more : (rows : FinMap key_cmp X) (key : List ℕ) (row : X) → P key row → AllRows rows → AllRows (insert rows key row)
  row_more rows key row fits all found there is =
      cond_both (eq_by_cmp key_cmp found key) (Some row) (get rows found) (λ o. o ≡ Some there → P found there)
      (λ same got. subst (λ k. P k there) (sym (tells_apart exact_bytes found key same)) (subst (P key) (same_Some row there got) fits))
      (λ other got. all found there got) (sym (get-insert nat_list_cmp_total rows key row found) ∙ is)

  pub row_less : (rows : FinMap key_cmp X) (key : List ℕ) → AllRows rows → AllRows (remove rows key)
  row_less rows key all found there is =
      cond_both (eq_by_cmp key_cmp found key) None (get rows found) (λ o. o ≡ Some there → P found there)
      (λ same got. absurd (none-some there got)) (λ other got. all found there got) (sym (get-remove nat_list_cmp_total rows key found) ∙ is)

pub none_more : {X : Type 0} (rows : FinMap key_cmp X) (key : List ℕ) → len (remove rows key) ≤ len rows
none_more rows key =
    subst (λ n. n ≤ len rows) (sym (len-remove nat_list_cmp_total rows key))
    (cond_both (contains_key rows key) (len rows - 1) (len rows) (λ n. n ≤ len rows) (λ e. omega arith) (λ e. omega arith))

-- ## The main table

change_keeps : (d : ObjectDecl) (o : Object) (key : List ℕ) (to : To) → is_table d.kind ≡ false → have_widths d.keys key ≡ true
    → has_value_widths d to ≡ true → IsKeptObject d o → IsKeptObject d (change_to o key to)
change_keeps d o key (Value values) free key_fits values_fit kept =
    put_keeps d o key values free key_fits values_fit kept
change_keeps d o key Gone free key_fits values_fit kept = del_keeps d o key free kept

-- ## The write-back table

abbrev IsStaged : ObjectDecl → List ℕ → Option (List ℕ) → Type 0
IsStaged d key row = (have_widths d.keys key && staged_fits d row) ≡ true

staged_by : (d : ObjectDecl) (to : To) → has_value_widths d to ≡ true → staged_fits d (values_of to) ≡ true
staged_by d (Value values) e = e
staged_by d Gone e = refl

room_for : (known : Bool) (n room : ℕ) → (known || nat_lt n room) ≡ true → n ≤ room → cond known n (n + 1) ≤ room
room_for true n room h le = le
room_for false n room h le = grind (arith, nat_tests)

stage_keeps : (d : ObjectDecl) (pair : Pair) (u : Update) (can : Bool) → can_stage pair.staged pair.room u.key ≡ can
    → have_widths d.keys u.key ≡ true → has_value_widths d u.to ≡ true → KeepsRows d pair → KeepsRows d (applied pair (Stage u))
stage_keeps d pair u false e key_fits values_fit kept = rw e kept
stage_keeps d pair u true e key_fits values_fit kept =
    let after : Pair = record pair { staged = insert pair.staged u.key (values_of u.to) } in
    let goes_on : KeepsRows d after = record {
      main = kept.main;
      staged = row_more (IsStaged d) pair.staged u.key (values_of u.to)
          (and_from (have_widths d.keys u.key) (staged_fits d (values_of u.to)) key_fits (staged_by d u.to values_fit)) kept.staged;
      few = subst (λ n. n ≤ pair.room) (sym (len-insert nat_list_cmp_total pair.staged u.key (values_of u.to)))
          (room_for (contains_key pair.staged u.key) (len pair.staged) pair.room e kept.few);
      room = kept.room;
    } in
    rw e goes_on

pub clearing : (d : ObjectDecl) (pair : Pair) (o : ℕ) (key : List ℕ) → KeepsRows d pair → KeepsRows d (applied pair (Clear o key))
clearing d pair o key kept = record {
  main = kept.main;
  staged = row_less (IsStaged d) pair.staged key kept.staged;
  few = omega (arith, none_more pair.staged key, kept.few);
  room = kept.room;
}

pub staging : (d : ObjectDecl) (pair : Pair) (u : Update) → fits_update d u ≡ true → KeepsRows d pair → KeepsRows d (applied pair (Stage u))
staging d pair u fits kept =
    let parts = and_parts (have_widths d.keys u.key) (has_value_widths d u.to) fits in
    stage_keeps d pair u (can_stage pair.staged pair.room u.key) refl parts.0 parts.1 kept

pub changing : (d : ObjectDecl) (pair : Pair) (u : Update) → is_table d.kind ≡ false → fits_update d u ≡ true → KeepsRows d pair
    → KeepsRows d (applied pair (Main u))
changing d pair u free fits kept =
    let parts = and_parts (have_widths d.keys u.key) (has_value_widths d u.to) fits in
    record {
      main = change_keeps d pair.main u.key u.to free parts.0 parts.1 kept.main;
      staged = kept.staged;
      few = kept.few;
      room = kept.room;
    }

-- ## What an object starts with

pub starting : (d : ObjectDecl) (room : ℕ) → IsKeptObject d (start_object d) → room ≤ 65536
    → KeepsRows d (record { main = start_object d; staged = empty; room = room })
starting d room kept le = record {
  main = kept;
  staged = λ key row is. absurd (none-some row (sym (get-empty key_cmp key) ∙ is));
  few = omega (arith, len-empty key_cmp (Option (List ℕ)));
  room = le;
}

-- a pair of a list in which one was set
at_pair : (P : Pair → Type 0) (pairs : List Pair) (k o : ℕ) (p : Pair) → P (pair_at pairs o) → (k ≡ o → P p) → P (pair_at (slice_set pairs k p) o)
at_pair P (q ∷ pairs) zero zero p before after = after refl
at_pair P (q ∷ pairs) (suc k) (suc o) p before after = at_pair P pairs k o p before (λ same. after (ap suc same))
at_pair P pairs k o p before after = before

module _ (code : Code) (told : Told) (safe : KeepsTables code told) where
  -- a command that names an object, which is declared as it is
  named : (k : ℕ) (e : ObjectDecl) (c : Command) → declared_at code.tables k ≡ Some e
      → (KeepsRows e (pair_at told.pairs k) → KeepsRows e (applied (pair_at told.pairs k) c))
      → (o : ℕ) (d : ObjectDecl) → declared_at code.tables o ≡ Some d → KeepsRows d (pair_at (with_command told.pairs k c) o)
  named k e c here keeps o d there =
      at_pair (KeepsRows d) told.pairs k o (applied (pair_at told.pairs k) c) (safe.rows o d there)
      (λ same.
      let one : e ≡ d = same_Some e d (sym here ∙ ap (declared_at code.tables) same ∙ there) in
      subst (λ (x : ObjectDecl). KeepsRows x (applied (pair_at told.pairs k) c)) one (keeps (safe.rows k e here)))

  others : (k : ℕ) (e : ObjectDecl) (c : Command) → declared_at code.tables k ≡ Some e → (o : ℕ) → declared_at code.tables o ≡ None
      → pair_at (with_command told.pairs k c) o ≡ no_pair
  others k e c here o none =
      at_pair (λ p. p ≡ no_pair) told.pairs k o (applied (pair_at told.pairs k) c) (safe.none o none)
      (λ same. absurd (none-some e (sym none ∙ ap (declared_at code.tables) (sym same) ∙ here)))

  pub command_keeps : (c : Command) → IsCommandOf code c → KeepsTables code (told_after c told)
  command_keeps (Stage u) h = record {
    rows = named u.object h.0 (Stage u) h.1.declared (staging h.0 (pair_at told.pairs u.object) u h.2);
    none = others u.object h.0 (Stage u) h.1.declared;
  }
  command_keeps On h = record { rows = safe.rows; none = safe.none }
  command_keeps (Main u) h = record {
    rows = named u.object h.0 (Main u) h.1.declared (changing h.0 (pair_at told.pairs u.object) u h.1.changes h.2);
    none = others u.object h.0 (Main u) h.1.declared;
  }
  command_keeps Off h = record { rows = safe.rows; none = safe.none }
  command_keeps (Clear k key) h = record {
    rows = named k h.0 (Clear k key) h.1.declared (clearing h.0 (pair_at told.pairs k) k key);
    none = others k h.0 (Clear k key) h.1.declared;
  }

room_low : (b : Bool) (room : ℕ) → room ≤ 65536 → (if b then 0 else room) ≤ 65536
room_low true room le = omega arith
room_low false room le = le

pub start_safe : (code : Code) (told : Told) → CanBeRun code → IsStart code told → AreSafe (Some code) told
start_safe code told can start other is =
    subst (λ (c : Code). KeepsTables c told) (same_Some code other is) (record {
      rows = λ o d here.
          subst (KeepsRows d) (sym (start.pairs o ∙ ap (start_pair code.writeback) here))
          (starting d (staging_room code.writeback d) (can.tables o d here).start
          (room_low (is_table d.kind) code.writeback can.writeback));
      none = λ o here. start.pairs o ∙ ap (start_pair code.writeback) here;
    })

-- after a command of the code that is loaded
pub safe_after : (loaded : Option Code) (told : Told) (c : Command) → ((code : Code) → loaded ≡ Some code → IsCommandOf code c)
    → AreSafe loaded told → AreSafe loaded (told_after c told)
safe_after loaded told c commands safe code is = command_keeps code told (safe code is) c (commands code is)
