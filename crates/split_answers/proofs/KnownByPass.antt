-- A pass that goes on stage by stage, from its entry to its last answer.
use Rattle.std.proofs.Common.{◌≡◌, ℕ, suc, Bool, true, false, List, Some, None, inl, inr, refl, sym, ap, ◌∙◌, subst}
use Rattle.std.proofs.lemmas.Bool.{cond-false, cases_Bool}
use Rattle.packet_fields.specs.declared.packet.Packet.{Packet}
use Rattle.state_store.specs.declared.object.ObjectDecl.{ObjectDecl}
use Rattle.state_store.specs.Kept.{IsKept, IsKeptObject}
use Rattle.state_store.specs.Kinds.{is_table}
use Rattle.state_store.specs.Store.{Store, object_at}
use Rattle.flat_ir.specs.declared.program.ValueId.{ValueId}
use Rattle.flat_ir.specs.Blocks.{Reading}
use Rattle.flat_ir.specs.Program.{Program}
use Rattle.split_model.specs.declared.split.Part.{Part}
use Rattle.writeback_table.specs.declared.command.Command.{Command}
use Rattle.switch_ir.specs.declared.port.UpEnd.{UpEnd}
use Rattle.switch_ir.specs.declared.port.UpEnd.TheVariants as up
use Rattle.switch_ir.specs.Code.{Code}
use Rattle.switch_ir.specs.Emitted.{emitted}
use Rattle.switch_ir.specs.Meaning.{goes_up, leaves, pass_values, up_values}
use Rattle.switch_ir.specs.Port.{EndsUp}
use Rattle.switch_ir.specs.Staged.{EndsBy, IsEntered, IsOver, IsStaged, Sees, Staging, is_had, last_numbers, staging}
use Rattle.switch_ir.specs.Tables.{Told, seen_tables, view_of}
use Rattle.switch_ir.specs.UnderWay.{HasEntered, HasGoneOn, PassState, StagesTold}
use Rattle.split_answers.specs.Through.{IsThrough}
use Rattle.split_answers.specs.UnderWay.{Knows, AreShown, Views}
use Rattle.split_answers.specs.Whole.{IsSplit}
use Rattle.switch_ir.proofs.Declared.{can_change, looked_up_declared}
use Rattle.switch_ir.proofs.InStages.{AgreeLast, ended_over, entered_over, staged_over}
use Rattle.switch_ir.proofs.ZeroValues.{KeepLookedUp, looked_up_there, none_over}
use Rattle.split_answers.proofs.Seen.{constant_viewed, has_replicated, replicated_viewed}
use Rattle.switch_ir.proofs.Soundness.{starts}

module _ (f : Program) (split : List Part) (writeback : ℕ) (is : IsSplit f split writeback) (st : Store) (kept : IsKept f.objects st) where
  abbrev code : Code
  code = emitted f split writeback

  -- ## Tables that show the store

  -- what is looked up is a constant table or replicated
  table_or_not : (P : Type 0) (d : ObjectDecl) → (is_table d.kind ≡ true → P) → (is_table d.kind ≡ false → P) → P
  table_or_not P d table other = elim (cases_Bool (is_table d.kind)) [ inl t ↦ table t | inr n ↦ other n ]

  module _ (commands : List Command) (told : Told) (through : IsThrough code commands told) where
    -- lookups by a bit see what they see of other tables that show the store
    keep : AreShown f split writeback commands st → KeepLookedUp f split (seen_tables told)
    keep shows o d looked at =
        table_or_not (IsKeptObject d (object_at (seen_tables told) o)) d
        (λ table. subst (IsKeptObject d) (starts f.objects o d at ∙ sym (constant_viewed f split writeback is commands told through told.bit o d at table looked)) (is.kept.each o d at))
        (λ changes. subst (IsKeptObject d) (sym (has_replicated f split writeback is commands told through st shows kept o (can_change f split o d is.legal looked at changes))) (kept.each o d at))

    module _ (before : List Command) (first : Told) (through_first : IsThrough code before first) where
      sees : (pre bit : Bool) → Views f split writeback bit commands st → AreShown f split writeback before st → Sees (staging pre code) (view_of bit told.pairs) (seen_tables first)
      sees pre bit views shows o e =
          let looked = looked_up_there f split writeback pre o e in
          let d = looked_up_declared f split o is.bounded.formed looked in
          table_or_not (object_at (view_of bit told.pairs) o ≡ object_at (seen_tables first) o) d.0
          (λ table.
          constant_viewed f split writeback is commands told through bit o d.0 d.1 table looked
          ∙ sym (constant_viewed f split writeback is before first through_first first.bit o d.0 d.1 table looked))
          (λ changes.
          let shown = can_change f split o d.0 is.legal looked d.1 changes in
          replicated_viewed f split writeback is commands told through bit st o shown (views o shown) kept
          ∙ sym (has_replicated f split writeback is before first through_first st shows kept o shown))

  -- ## The entry

  pub enters : (pre : Bool) (given : Reading) (packet : Packet) (commands : List Command) (told : Told) (pass : PassState) → IsThrough code commands told
      → AreShown f split writeback commands st
      → ((v : ValueId) → is_had (staging pre code) 0 v ≡ false → given v ≡ 0)
      → HasEntered (staging pre code) (λ g. g ≡ given) packet (Some told) pass → Knows f split writeback pre given packet told.bit st pass
  enters pre given packet commands told pass through shows none entered =
      let p : Staging = staging pre code in
      let own = entered.told in
      let by_bit : IsEntered p given (seen_tables told) packet own.0.numbers = subst (λ b. IsEntered p given (view_of b told.pairs) packet own.0.numbers) own.2 (own.3 given refl) in
      let over : IsOver p given (seen_tables told) packet 0 own.0.numbers = entered_over p given (seen_tables told) packet (seen_tables told) own.0.numbers by_bit (λ o e. refl) in
      record {
        pass = own.0;
        told = own.1;
        bit_is = own.2;
        packet_is = entered.packet;
        first = told;
        commands = commands;
        through = through;
        first_bit = refl;
        shows = shows;
        over = subst (λ t. IsOver p given (seen_tables told) packet t own.0.numbers) (sym entered.stage) over;
        no_more = none_over f split writeback pre is.bounded.formed given (seen_tables told) packet (keep commands told through shows) none;
      }

  -- ## A stage

  module _ (commands : List Command) (told : Told) (through : IsThrough code commands told) (pre : Bool) (given : Reading) (packet : Packet) (bit : Bool)
      (old : PassState)
      (views : Views f split writeback bit commands st) (knows : Knows f split writeback pre given packet bit st old) where
    abbrev p : Staging
    p = staging pre code

    own_sees : Sees p (view_of knows.pass.bit told.pairs) (seen_tables knows.first)
    own_sees =
        subst (λ b. Sees p (view_of b told.pairs) (seen_tables knows.first)) (sym knows.bit_is)
        (sees commands told through knows.commands knows.first knows.through pre bit views knows.shows)

    pub goes_on : (new : PassState) → HasGoneOn p (Some told) old new → Knows f split writeback pre given packet bit st new
    goes_on new gone =
        let own = subst (λ o. StagesTold p (suc old.stage) old.packet (Some told) o new.told) knows.told gone.told in
        let staged = subst (λ q. IsStaged p (suc old.stage) knows.pass.numbers (view_of knows.pass.bit told.pairs) q own.0.numbers) knows.packet_is own.3 in
        let over = staged_over p given (seen_tables knows.first) packet knows.no_more old.stage knows.pass.numbers own.0.numbers
        (view_of knows.pass.bit told.pairs) knows.over staged own_sees in
        record {
          pass = own.0;
          told = own.1;
          bit_is = own.2 ∙ knows.bit_is;
          packet_is = gone.packet ∙ knows.packet_is;
          first = knows.first;
          commands = knows.commands;
          through = knows.through;
          first_bit = knows.first_bit;
          shows = knows.shows;
          over = subst (λ t. IsOver p given (seen_tables knows.first) packet t own.0.numbers) (sym gone.stage) over;
          no_more = knows.no_more;
        }

    -- the last numbers are those of the whole pass over the tables of the entry, as far as they are read
    pub ends_alike : suc old.stage ≡ p.code.highest → AgreeLast p (last_numbers p (suc old.stage) knows.pass.numbers (view_of knows.pass.bit told.pairs) packet) (pass_values p.code given (seen_tables knows.first) packet)
    ends_alike last =
        ended_over p given (seen_tables knows.first) packet knows.no_more old.stage knows.pass.numbers (view_of knows.pass.bit told.pairs)
        (sym last) knows.over own_sees

-- ## The last answer

pub over_up : (code : Code) (told : Told) (number : ℕ) (packet : Packet) (end : UpEnd)
    → EndsBy code (up_values code (seen_tables told) packet) number packet end → EndsUp code told number packet end
over_up c told number packet (up.Finished verdict) h =
    let reads = up_values c (seen_tables told) packet in
    cond-false (goes_up c reads) None (Some (leaves c.pre reads packet)) h.0 ∙ ap (λ y. Some y) (sym h.1)
over_up c told number packet (up.Up frame) h = h
over_up c told number packet end h = tt
