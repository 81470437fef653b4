-- What calls of a switch leave in its journal and its tables.
use Rattle.std.proofs.Common.{◌≡◌, true, false, List, [], ◌∷◌, ◌++◌, Option, Some, None, refl, sym, ap, ◌∙◌}
use Rattle.std.specs.List.{filter}
use Rattle.std.specs.Option.{option_map}
use Rattle.std.proofs.lemmas.List.{append-nil, append_assoc}
use Rattle.std.proofs.lemmas.List.Elements.{filter-append}
use Rattle.switch_ir.specs.Code.{Code}
use Rattle.switch_ir.specs.Port.{PortState}
use Rattle.switch_ir.specs.Tables.{Told}
use Rattle.switch_ir.specs.declared.journal.Entry.{Entry}
use Rattle.replay_state.specs.Journal.{Call, CalledUp, CalledCommand, CalledDown}
use Rattle.replay_contracts.specs.Called.{WasCalled, WasMade, calls_in, entry_of, is_of_replay, journal_of, told_then, told_through}

-- what one call leaves
pub record Leaves (call : Call) (old new : PortState) : Type 0 where
  pub loaded : new.code ≡ old.code
  pub told : new.told ≡ option_map (told_then call) old.told
  pub journal : calls_in new.journal ≡ calls_in old.journal ++ entry_of call ∷ []
  pub faults : new.faults ≡ old.faults

same_told : (call : Call) (o : Option Told) → ((told : Told) → told_then call told ≡ told) → o ≡ option_map (told_then call) o
same_told call None same = refl
same_told call (Some told) same = ap (λ t. Some t) (sym (same told))

alone : (e : Entry) → is_of_replay e ≡ true → filter is_of_replay (e ∷ []) ≡ e ∷ []
alone e h = rw h refl

pub one_entry : (journal more : List Entry) (entry : Entry) → is_of_replay entry ≡ true → more ≡ journal ++ entry ∷ [] → calls_in more ≡ calls_in journal ++ entry ∷ []
one_entry journal more entry counts is = ap calls_in is ∙ filter-append is_of_replay journal (entry ∷ []) ∙ ap (λ l. calls_in journal ++ l) (alone entry counts)

-- a call that leaves the tables
leaves_tables : (call : Call) (old new : PortState) → ((told : Told) → told_then call told ≡ told) → is_of_replay (entry_of call) ≡ true
    → new.code ≡ old.code → new.told ≡ old.told → new.journal ≡ old.journal ++ entry_of call ∷ [] → new.faults ≡ old.faults → Leaves call old new
leaves_tables call old new same counts loaded told journal faults = record {
  loaded = loaded;
  told = told ∙ same_told call old.told same;
  journal = one_entry old.journal new.journal (entry_of call) counts journal;
  faults = faults;
}

pub made_leaves : (call : Call) (old new : PortState) → WasMade call old new → Leaves call old new
made_leaves (CalledUp false n packet answer) old new h = leaves_tables (CalledUp false n packet answer) old new
    (λ t. refl) refl h.kept.code h.kept.told h.journal h.faults
made_leaves (CalledCommand c) old new h =
    record { loaded = h.code; told = h.told; journal = one_entry old.journal new.journal (entry_of (CalledCommand c)) refl h.journal; faults = h.faults }
made_leaves (CalledDown false n frame answer) old new h = leaves_tables (CalledDown false n frame answer) old new
    (λ t. refl) refl h.kept.code h.kept.told h.journal h.faults
made_leaves call old new h = leaves_tables call old new (λ t. refl) refl h.1.kept.code h.1.kept.told h.1.journal h.1.faults

-- what several leave, one after the other
pub record LeaveAll (calls : List Call) (old new : PortState) : Type 0 where
  pub loaded : new.code ≡ old.code
  pub told : new.told ≡ option_map (told_through calls) old.told
  pub journal : calls_in new.journal ≡ calls_in old.journal ++ journal_of calls
  pub faults : new.faults ≡ old.faults

same_none : (o : Option Told) → o ≡ option_map (told_through []) o
same_none None = refl
same_none (Some told) = refl

told_both : (call : Call) (calls : List Call) (o : Option Told) → option_map (told_through calls) (option_map (told_then call) o) ≡ option_map (told_through (call ∷ calls)) o
told_both call calls None = refl
told_both call calls (Some told) = refl

pub called_leave : (code : Code) (calls : List Call) (old new : PortState) → WasCalled code calls old new → LeaveAll calls old new
called_leave code [] old new kept = record {
  loaded = kept.code;
  told = kept.told ∙ same_none old.told;
  journal = kept.journal ∙ sym (append-nil (calls_in old.journal));
  faults = kept.faults;
}
called_leave code (call ∷ calls) old new h =
    let mid = h.0 in
    let one = made_leaves call old mid h.2 in
    let rest = called_leave code calls mid new h.3 in
    record {
      loaded = rest.loaded ∙ one.loaded;
      told = rest.told ∙ ap (option_map (told_through calls)) one.told ∙ told_both call calls old.told;
      journal = rest.journal ∙ ap (λ l. l ++ journal_of calls) one.journal ∙ append_assoc (calls_in old.journal) (entry_of call ∷ []) (journal_of calls);
      faults = rest.faults ∙ one.faults;
    }
