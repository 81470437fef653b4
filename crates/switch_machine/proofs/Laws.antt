-- What passes compute in registers.
use Rattle.std.proofs.Common.{◌≡◌, ℕ, suc, Bool, []}
use Rattle.packet_fields.specs.declared.packet.Packet.{Packet}
use Rattle.flat_ir.specs.Blocks.{Reading, nothing}
use Rattle.transfer_header.proofs.Laws.{needed_values_fit}
use Rattle.transfer_header.specs.Registers.{ArePlaced, FitsLayout, Registers, value_in}
use Rattle.transfer_header.specs.Steps.{AreKeptApart, pairs_written}
use Rattle.switch_ir.specs.Code.{Code}
use Rattle.switch_ir.specs.Meaning.{down_given, pass_values}
use Rattle.switch_ir.specs.Spans.{post_spans, pre_spans}
use Rattle.switch_ir.specs.Staged.{IsEntered, IsStaged, Staging, last_numbers}
use Rattle.switch_ir.specs.Tables.{Told, seen_tables, view_of}
use Rattle.switch_machine.specs.declared.loaded_pass.LoadedPass.{LoadedPass}
use Rattle.switch_machine.specs.declared.sides.Side.TheVariants.{Before, Behind}
use Rattle.switch_machine.specs.ActivePasses.{numbers_in}
use Rattle.switch_machine.specs.Keeping.{begins, kept}
use Rattle.switch_machine.specs.Kept.{KeepsTables}
use Rattle.switch_machine.specs.Numbers.{AreHeld, stage_gives}
use Rattle.switch_machine.specs.Planned.{BeginsWith, FitRanges, registers_at, stage_done}
use Rattle.switch_machine.specs.Sides.{staging}
use Rattle.switch_machine.specs.Staged.{of_stage}
use Rattle.switch_machine.specs.LoadedPasses.{IsPassOf}
use Rattle.switch_machine.proofs.PostReads.{begins_with}
use Rattle.switch_machine.proofs.ResultCounts.{results_few}
use Rattle.switch_machine.proofs.InRegisters.{first_is, pass_is}
use Rattle.switch_machine.proofs.LoadedCode.{kept_apart, ranged_of}
use Rattle.switch_machine.proofs.PassValues.{steps_fit, IsRanged}
use Rattle.switch_machine.proofs.StageByStage.{ends, entered, staged}

module _ (code : Code) (l : LoadedPass) (is : IsPassOf code l) (registers : Registers) (planned : registers.plan ≡ l.registers.plan) where
  -- Registers by the plan of a pass serve for what goes up.
  pub what_goes_up_fits : l.side ≡ Before → FitsLayout code.up registers
  what_goes_up_fits before =
      needed_values_fit code.up (pre_spans code) registers code.pre.highest (rw before at (kept_apart code l is registers planned)) is.can.up is.can.up_needed

  what_is_needed : l.side ≡ Behind → AreKeptApart (post_spans code) registers
  what_is_needed behind = rw behind at (kept_apart code l is registers planned)

  -- the registers serve for what comes down
  pub what_comes_down_fits : l.side ≡ Behind → FitsLayout code.down registers
  what_comes_down_fits behind = needed_values_fit code.down (post_spans code) registers 0 (what_is_needed behind) is.can.down is.can.down_needed

  module _ (placed : ArePlaced registers) where
    -- Once what comes down and what postprocessing is given is in its registers, it begins with this.
    pub what_is_given : l.side ≡ Behind → (packet : Packet)
        → BeginsWith l.numbering (begins l.numbering (staging Behind code)) (down_given code (value_in registers) packet)
        (pairs_written registers (stage_gives l.numbering (of_stage 0 code.post.given) nothing [] packet))
    what_is_given behind packet =
        let p = staging Behind code in
        let ranged : IsRanged p l.numbering = rw behind at (ranged_of code l is) in
        begins_with p l.numbering ranged registers packet placed (what_is_needed behind)

    module _ (told : Told) (safe : KeepsTables code told) (packet : Packet) where
      abbrev p : Staging
      p = staging l.side code

      fit : (bit : Bool) → FitRanges l.numbering p.code.steps (view_of bit told.pairs) packet
      fit bit =
          let told_by : Told = record told { bit = bit } in
          let safe_by : KeepsTables code told_by = record { rows = safe.rows; none = safe.none } in
          steps_fit p l.numbering (ranged_of code l is) (seen_tables told_by) packet (λ reads s. results_few code told_by safe_by reads packet s.work)

      module _ (given : Reading) (begin : BeginsWith l.numbering (begins l.numbering p) given registers) where
        -- In registers by its plan the pass of a side is computed as a whole.
        pub a_pass_is_computed : AreHeld l.numbering (registers_at l.numbering p.code (seen_tables told) packet registers (suc p.code.highest))
            (pass_values p.code given (seen_tables told) packet) (kept p)
        a_pass_is_computed =
            pass_is p l.numbering (ranged_of code l is) given (seen_tables told) packet registers (kept_apart code l is registers planned) placed begin (fit told.bit)

        -- After its first stage it knows what it is to know.
        pub a_pass_enters : IsEntered p given (seen_tables told) packet
            (numbers_in p l.numbering 0 (stage_done l.numbering p.code.steps 0 (seen_tables told) packet registers))
        a_pass_enters =
            entered p l.numbering (ranged_of code l is) given (seen_tables told) packet registers
            (first_is p l.numbering (ranged_of code l is) given (seen_tables told) packet registers (kept_apart code l is registers planned) placed begin (fit told.bit))

      module _ (bit : Bool) (t : ℕ) where
        -- So it does after each further stage.
        pub a_pass_goes_on : IsStaged p (suc t) (numbers_in p l.numbering t registers) (view_of bit told.pairs) packet
            (numbers_in p l.numbering (suc t) (stage_done l.numbering p.code.steps (suc t) (view_of bit told.pairs) packet registers))
        a_pass_goes_on =
            staged p l.numbering (ranged_of code l is) t registers (kept_apart code l is registers planned) placed (view_of bit told.pairs) packet (fit bit)

        -- the last stage of a pass leaves what is kept
        pub a_pass_ends : suc t ≡ p.code.highest
            → AreHeld l.numbering (stage_done l.numbering p.code.steps (suc t) (view_of bit told.pairs) packet registers)
            (last_numbers p (suc t) (numbers_in p l.numbering t registers) (view_of bit told.pairs) packet) (kept p)
        a_pass_ends = ends p l.numbering (ranged_of code l is) t registers (kept_apart code l is registers planned) placed (view_of bit told.pairs) packet (fit bit)
