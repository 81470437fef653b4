-- The lookup that a source spells, and where the locals go that a body declares.
use Rattle.std.proofs.Common.{◌≡◌, ℕ, List, ◌++◌, length, take, map, sym, ap, ◌∙◌}
use Rattle.std.proofs.lemmas.List.{take-map, take_at, length-map}
use Rattle.element_text.specs.Scopes.{known_of}
use Rattle.element_text.specs.Resolve.{Known}
use Rattle.element_text.proofs.Kept.{Entries}

-- the locals in scope again, where those behind them are cut off
pub cut_scope : (outer inner : Entries) (n : ℕ) (more : List Known) → n ≡ length outer → map known_of inner ≡ map known_of outer ++ more → map known_of (take n inner) ≡ map known_of outer
cut_scope outer inner n more is longer =
    sym (take-map known_of n inner) ∙ ap (take n) longer ∙ take_at (map known_of outer) more n (length-map outer known_of ∙ sym is)
