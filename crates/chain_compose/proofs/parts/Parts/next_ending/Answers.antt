use Rattle.std.proofs.Common.{◌∙◌, ◌*◌, ℕ, List, refl, ap}
use Rattle.element_chain.specs.declared.chain.Wire.{Wire}
use Rattle.element_chain.specs.Compose.{wires_of}
use Rattle.element_print.specs.Lengths.{capped}
use Rattle.chain_compose.specs.Counts.{clearing_count}
use Rattle.chain_compose.specs.Parts.{chain_of}
use Rattle.chain_compose.specs.Tallies.{after_count, told_end}
use Rattle.chain_compose.proofs.Elements.{next_fixed}
use Rattle.chain_compose.proofs.RoutesAt.{own_wires}
use Rattle.chain_compose.proofs.parts.Parts.next_ending.Goals as goal

pub returns : goal.returns
returns c =
    let parts = c.args.self.now in
    let f = c.args.figures in
    let e = c.args.element in
    let end = told_end c.args.gauge c.args.endings.now in
    let wires = own_wires parts e c.of.result.now c.requires.element_in_range c.of.ensures in
    let after = after_count c.args.gauge end (wires_of (chain_of parts).wires e) in
    record {
      fixed =
          c.saturating_add-fixed.ensures
          ∙ next_fixed c.args.clearing (clearing_count c.args.gauge (chain_of parts)) f.own f.closing f.sent after
          c.saturating_mul-tests.result c.saturating_add-behind.result c.saturating_add-own.result c.requires.clearing
          (c.saturating_mul-tests.ensures ∙ ap (λ (k : ℕ). capped (f.sent * k)) (c.after_count-after.ensures ∙ ap (λ (ws : List Wire). capped (after_count c.args.gauge end ws)) wires))
          c.saturating_add-behind.ensures c.saturating_add-own.ensures;
      reads = refl;
    }
