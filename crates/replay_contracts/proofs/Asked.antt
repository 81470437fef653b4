-- The one call that an event asks.
use Rattle.std.proofs.Common.{◌≡◌, ℕ, Bool, List, [], ◌∷◌, map, refl}
use Rattle.packet_fields.specs.declared.packet.Packet.{Packet}
use Rattle.writeback_table.specs.declared.command.Command.{Command}
use Rattle.replay_state.specs.Journal.{Call, CalledUp, CalledStageUp, CalledCommand, CalledDown, CalledStageDown, UpAnswer, DownAnswer}
use Rattle.replay_state.specs.Journal.{AsksUp, AsksStageUp, AsksCommand, AsksDown, AsksStageDown, question_of, is_up_end, is_down_end}

pub none_asked : (one : List Call) → map question_of one ≡ [] → one ≡ []
none_asked [] e = refl
none_asked (c ∷ cs) e = cc

-- one call, with an answer that ends its pass or doesn't
pub record Asked (Answer : Type 0) (call : Answer → Call) (is_end : Answer → Bool) (ends : Bool) (one : List Call) : Type 0 where
  pub answer : Answer
  pub is : one ≡ call answer ∷ []
  pub ended : is_end answer ≡ ends

pub asked_up : (one : List Call) (fine : Bool) (n : ℕ) (packet : Packet) (ends : Bool) → map question_of one ≡ AsksUp fine n packet ends ∷ []
    → Asked UpAnswer (λ answer. CalledUp fine n packet answer) is_up_end ends one
asked_up (CalledUp f m p answer ∷ []) fine n packet ends e = record { answer = answer; is = cc; ended = cc }
asked_up one fine n packet ends e = cc

pub asked_stage_up : (one : List Call) (n : ℕ) (ends : Bool) → map question_of one ≡ AsksStageUp n ends ∷ []
    → Asked UpAnswer (λ answer. CalledStageUp n answer) is_up_end ends one
asked_stage_up (CalledStageUp m answer ∷ []) n ends e = record { answer = answer; is = cc; ended = cc }
asked_stage_up one n ends e = cc

pub asked_down : (one : List Call) (fine : Bool) (n : ℕ) (frame : List ℕ) (ends : Bool) → map question_of one ≡ AsksDown fine n frame ends ∷ []
    → Asked DownAnswer (λ answer. CalledDown fine n frame answer) is_down_end ends one
asked_down (CalledDown f m g answer ∷ []) fine n frame ends e = record { answer = answer; is = cc; ended = cc }
asked_down one fine n frame ends e = cc

pub asked_stage_down : (one : List Call) (n : ℕ) (ends : Bool) → map question_of one ≡ AsksStageDown n ends ∷ []
    → Asked DownAnswer (λ answer. CalledStageDown n answer) is_down_end ends one
asked_stage_down (CalledStageDown m answer ∷ []) n ends e = record { answer = answer; is = cc; ended = cc }
asked_stage_down one n ends e = cc

pub asked_command : (one : List Call) (command : Command) → map question_of one ≡ AsksCommand command ∷ [] → one ≡ CalledCommand command ∷ []
asked_command (CalledCommand c ∷ []) command e = cc
asked_command one command e = cc
