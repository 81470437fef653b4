-- What the call of an event does to the passes under way, and the frames that it answers.
use Rattle.std.proofs.Common.{◌≡◌, ◌≤◌, ℕ, true, false, List, [], ◌∷◌, Some, length, sym, ap, ◌∙◌, subst, arith}
use Rattle.std.specs.List.{AllByRecursion as Each}
use Rattle.std.proofs.lemmas.Option.{same_Some}
use Rattle.packet_fields.specs.declared.packet.Packet.{Packet}
use Rattle.switch_ir.specs.Code.{Code}
use Rattle.switch_ir.specs.Port.{PortState, IsUpFrame}
use Rattle.switch_ir.specs.UnderWay.{PassState, UnderWay}
use Rattle.replay_state.specs.Answers.{Setup}
use Rattle.replay_state.specs.Journal.{Call, CalledUp, CalledStageUp, CalledDown}
use Rattle.replay_state.specs.Program.{packet_at}
use Rattle.replay_state.specs.State.{State}
use Rattle.split_answers.specs.Through.{end_of}
use Rattle.split_answers.specs.UnderWay.{AreOnSwitch, passes_of}
use Rattle.replay_contracts.specs.Called.{IsFormed, WasCalled, WasMade}
use Rattle.lemmas.proofs.Tests.{value_of_some}

-- a pass before the server that is under way on the switch is over the packet of its number
pub own_packet : (setup : Setup) (packets : List Packet) (st : State) (u : UnderWay) (n : ℕ) (own : PassState) → AreOnSwitch setup packets st u → u.pre n ≡ Some own → own.packet ≡ packet_at packets n
own_packet setup packets st u n own on there =
    let found = on.only true n own there in
    let p = found.1 in
    let is = on.each found.0 p found.2 in
    let at : passes_of p.pre u p.number ≡ u.pre n = ap (λ b. passes_of b u p.number) found.3 ∙ ap u.pre found.4 in
    let same : is.own ≡ own = same_Some _ _ (sym is.there ∙ at ∙ there) in
    ap (λ (s : PassState). s.packet) (sym same) ∙ is.packet found.3 ∙ ap (packet_at packets) found.4

-- ## The frames

made_formed : (setup : Setup) (packets : List Packet) (code : Code) (st : State) (call : Call) (old new : PortState) → old.code ≡ Some code → AreOnSwitch setup packets st old.passes → WasMade call old new → IsFormed code packets call
made_formed setup packets code st (CalledUp false n packet answer) old new loaded on h = h.frame code loaded
made_formed setup packets code st (CalledUp true n packet answer) old new loaded on h = h.1.frame code loaded
made_formed setup packets code st (CalledStageUp n answer) old new loaded on h =
    let own = value_of_some (old.passes.pre n) h.0 in
    let frame = h.1.frame code own.0 loaded own.1 in
    subst (λ (p : Packet). IsUpFrame code n p.port p.bytes (end_of answer)) (own_packet setup packets st old.passes n own.0 on own.1) frame
made_formed setup packets code st (CalledDown false n frame answer) old new loaded on h = tt
made_formed setup packets code st call old new loaded on h = tt

pub one_formed : (setup : Setup) (packets : List Packet) (code : Code) (st : State) (calls : List Call) (old new : PortState) → length calls ≤ 1 → old.code ≡ Some code → AreOnSwitch setup packets st old.passes → WasCalled code calls old new → Each (IsFormed code packets) calls
one_formed setup packets code st [] old new few loaded on h = tt
one_formed setup packets code st (call ∷ []) old new few loaded on h = (made_formed setup packets code st call old h.0 loaded on h.2, tt)
one_formed setup packets code st (call ∷ (other ∷ calls)) old new few loaded on h = absurd (omega arith)
