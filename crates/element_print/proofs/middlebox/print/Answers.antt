use Rattle.std.proofs.Common.{◌≡◌, ℕ, List, length, ap, ◌∙◌}
use Rattle.std.proofs.lemmas.Result.{IfOk-weaker}
use Rattle.element_lang.specs.Accepted.{IsSource}
use Rattle.element_lang.specs.Surface.{named}
use Rattle.element_lang.specs.View.{tree}
use Rattle.element_print.specs.Lengths.{text_length}
use Rattle.element_print.specs.Printed.{text_of, print_tokens}
use Rattle.element_print.specs.ReadsBack.{HasExactly}
use Rattle.element_print.proofs.GoodMiddleboxes.{good_middlebox}
use Rattle.element_print.proofs.Shortest.{shortest}
use Rattle.element_print.proofs.TextLengths.{whole_bytes}
use Rattle.element_print.proofs.Sources.{printed_tokens, printed_source}
use Rattle.element_print.proofs.middlebox.print.Goals as goal

pub returns-clause-length : goal.returns-clause-length
returns-clause-length c =
    let m = tree c.args.m.now in
    IfOk-weaker c.written.result (λ (text : List ℕ). text ≡ text_of (print_tokens (named m))) (λ text. length text ≡ text_length m)
    (λ text is. ap length is ∙ whole_bytes m) c.written.ensures

pub returns-clause-tokens : goal.returns-clause-tokens
returns-clause-tokens c =
    let m = tree c.args.m.now in
    let ts = print_tokens (named m) in
    IfOk-weaker c.written.result (λ (text : List ℕ). text ≡ text_of ts) (λ text. HasExactly text ts)
    (λ text is. printed_tokens m text c.requires.names c.requires.good is) c.written.ensures

pub returns-clause-spells : goal.returns-clause-spells
returns-clause-spells c = good_middlebox (tree c.args.m.now) c.requires.good

pub returns-clause-source : goal.returns-clause-source
returns-clause-source c =
    let m = tree c.args.m.now in
    let ts = print_tokens (named m) in
    λ depth.
    IfOk-weaker c.written.result (λ (text : List ℕ). text ≡ text_of ts) (λ text. IsSource text m)
    (λ text is. printed_source m text c.requires.names c.requires.good depth is) c.written.ensures

pub returns-clause-shortest : goal.returns-clause-shortest
returns-clause-shortest c = λ others h. shortest (tree c.args.m.now) others h
