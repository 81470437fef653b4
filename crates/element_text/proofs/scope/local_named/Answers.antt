use Rattle.std.proofs.Common.{ℕ, Bor, Vec, Global, is_some, option_map, sym, ap, ◌∙◌}
use Rattle.std.specs.Option.{option_copied}
use Rattle.std.specs.Str.{bytes_eq}
use Rattle.std.specs.Map.{lookup}
use Rattle.element_tokens.specs.Tokens.{span_text}
use Rattle.element_text.specs.declared.scope.KnownLocal.{KnownLocal}
use Rattle.element_text.specs.Scopes.{known_as}
use Rattle.element_text.proofs.Links.{mapped}
use Rattle.element_text.proofs.Kept.{kept_local}
use Rattle.element_text.proofs.scope.local_named.Goals as goal

pub unwrap-requires : goal.unwrap-requires
unwrap-requires c =
    let es = c.args.known.now.entries in
    let word = span_text c.args.text.now c.args.name in
    let kept = mapped (lookup (λ (k : Vec ℕ Global). bytes_eq word k.items) es) (known_as word) (ap is_some (kept_local es word) ∙ c.requires) in
    mapped c.get.result (λ (x : Bor KnownLocal). x.now)
    (ap is_some (c.get.ensures.value ∙ ap (λ w. lookup (λ (k : Vec ℕ Global). bytes_eq w k.items) es) c.word_at.ensures) ∙ kept)

pub returns : goal.returns
returns c =
    let es = c.args.known.now.entries in
    let word = span_text c.args.text.now c.args.name in
    let found = sym (c.get.ensures.value ∙ ap (λ w. lookup (λ (k : Vec ℕ Global). bytes_eq w k.items) es) c.word_at.ensures)
    ∙ ap (λ o. option_copied o) c.unwrap.ensures in
    sym (kept_local es word) ∙ ap (option_map (known_as word)) found
