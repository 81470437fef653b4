use Rattle.std.proofs.Common.{◌∙◌, ℕ, ◌+◌, ◌*◌, length, sym, ap}
use Rattle.element_print.specs.Lengths.{capped, decls_length}
use Rattle.chain_compose.proofs.AllObjects.{named_decls}
use Rattle.chain_compose.proofs.Caps.{add_capped, capped_again}
use Rattle.chain_compose.proofs.objects.own_decls_length.Goals as goal

pub returns : goal.returns
returns c =
    let own = c.args.own.now in
    let prefix = c.prefix_length.result in
    let decls = decls_length own in
    let prefixes = length own * prefix in
    c.saturating_add.ensures
    ∙ ap (λ (k : ℕ). capped (k + c.saturating_mul-prefixes.result)) c.decls_length.ensures
    ∙ ap (λ (k : ℕ). capped (capped decls + k)) c.saturating_mul-prefixes.ensures
    ∙ add_capped (capped decls) (capped prefixes) decls prefixes (capped_again decls) (capped_again prefixes)
    ∙ ap capped (sym (named_decls c.args.element prefix c.prefix_length.ensures own))
