use Rattle.std.proofs.Common.{◌∙◌, ◌∷◌, ap, rules}
use Rattle.run_text.specs.Trace.{event_line}
use Rattle.run_text.proofs.PrintedBack.{names_serve, names_hold, names_down, names_stage}
use Rattle.run_text.proofs.schedule.read_numbered.Goals as goal

pub returns-in_ok-read_item-in-117 : goal.returns-in_ok-read_item-in-117
returns-in_ok-read_item-in-117 c =
    rw (ap (λ letter. event_line (letter ∷ 32 ∷ c.args.item.now)) c.in-117.is ∙ names_serve.line c.args.item.now) (search rules)

pub returns-in_err-read_item-in-117 : goal.returns-in_err-read_item-in-117
returns-in_err-read_item-in-117 c =
    rw (ap (λ letter. event_line (letter ∷ 32 ∷ c.args.item.now)) c.in-117.is ∙ names_serve.line c.args.item.now) (search rules)

pub returns-in_ok-read_item-in-104 : goal.returns-in_ok-read_item-in-104
returns-in_ok-read_item-in-104 c =
    rw (ap (λ letter. event_line (letter ∷ 32 ∷ c.args.item.now)) c.in-104.is ∙ names_hold.line c.args.item.now) (search rules)

pub returns-in_err-read_item-in-104 : goal.returns-in_err-read_item-in-104
returns-in_err-read_item-in-104 c =
    rw (ap (λ letter. event_line (letter ∷ 32 ∷ c.args.item.now)) c.in-104.is ∙ names_hold.line c.args.item.now) (search rules)

pub returns-in_ok-read_item-in-100 : goal.returns-in_ok-read_item-in-100
returns-in_ok-read_item-in-100 c =
    rw (ap (λ letter. event_line (letter ∷ 32 ∷ c.args.item.now)) c.in-100.is ∙ names_down.line c.args.item.now) (search rules)

pub returns-in_err-read_item-in-100 : goal.returns-in_err-read_item-in-100
returns-in_err-read_item-in-100 c =
    rw (ap (λ letter. event_line (letter ∷ 32 ∷ c.args.item.now)) c.in-100.is ∙ names_down.line c.args.item.now) (search rules)

pub returns-in_ok-read_item-in-115 : goal.returns-in_ok-read_item-in-115
returns-in_ok-read_item-in-115 c =
    rw (ap (λ letter. event_line (letter ∷ 32 ∷ c.args.item.now)) c.in-115.is ∙ names_stage.line c.args.item.now) (search rules)

pub returns-in_err-read_item-in-115 : goal.returns-in_err-read_item-in-115
returns-in_err-read_item-in-115 c =
    rw (ap (λ letter. event_line (letter ∷ 32 ∷ c.args.item.now)) c.in-115.is ∙ names_stage.line c.args.item.now) (search rules)
