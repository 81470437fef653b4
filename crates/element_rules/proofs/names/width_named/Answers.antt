use Rattle.std.proofs.Common.{ℕ, Vec, Global, ap, ◌∙◌}
use Rattle.std.specs.Str.{bytes_eq}
use Rattle.std.specs.Map.{lookup}
use Rattle.element_tokens.specs.Tokens.{span_text}
use Rattle.element_rules.proofs.Scope.{kept_width}
use Rattle.element_rules.proofs.names.width_named.Goals as goal

pub returns : goal.returns
returns c =
    let entries = c.args.locals.now.entries in
    c.copied.ensures ∙ c.get.ensures.value ∙ ap (λ w. lookup (λ (k : Vec ℕ Global). bytes_eq w k.items) entries) c.word_at.ensures
    ∙ kept_width entries (span_text c.args.text.now c.args.name)
