use Rattle.std.proofs.Common.{◌≡◌, ℕ, IfOk, subst, sym, ap, ◌∙◌}
use Rattle.element_print.proofs.Laws.{text_is_told-depth, text_is_told-length}
use Rattle.element_print.specs.Depths.{text_depth}
use Rattle.element_print.specs.Lengths.{capped, text_length}
use Rattle.element_chain.specs.Compose.{composed}
use Rattle.chain_compose.specs.Refusals.{amount}
use Rattle.chain_compose.specs.Parts.{chain_of}
use Rattle.chain_compose.proofs.parts.Parts.amount.Goals as goal

pub returns-in-Depth : goal.returns-in-Depth
returns-in-Depth c =
    let m = composed (chain_of c.args.self.now) in
    let same : text_depth m ≡ amount c.args.what m = sym (text_is_told-depth m) ∙ ap (λ w. amount w m) (sym c.in-Depth.is) in
    subst (λ (n : ℕ). IfOk c.depth.result (λ d. d ≡ capped n)) same c.depth.ensures

pub returns-in-Bytes : goal.returns-in-Bytes
returns-in-Bytes c =
    let m = composed (chain_of c.args.self.now) in
    let same : text_length m ≡ amount c.args.what m = sym (text_is_told-length m) ∙ ap (λ w. amount w m) (sym c.in-Bytes.is) in
    subst (λ (n : ℕ). IfOk c.bytes.result (λ d. d ≡ capped n)) same c.bytes.ensures
