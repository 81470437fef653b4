-- What holds of every printed text, as the definitions give it.
use Rattle.std.specs.Prelude.{length, ◌≡◌}
use Rattle.element_lang.specs.Accepted.{deepest}
use Rattle.element_lang.specs.Surface.{named}
use Rattle.element_lang.specs.Tree.{Tree}
use Rattle.element_print.proofs.TextDepths.{whole_depth}
use Rattle.element_print.proofs.TextLengths.{whole_bytes}
use Rattle.element_print.specs.Depths.{text_depth}
use Rattle.element_print.specs.Lengths.{text_length}
use Rattle.element_print.specs.Printed.{print_tokens, text_of}

-- A printed text has as many bytes as its tree gives, and its brackets stand in one another as deep.
pub text_is_told-length : (m : Tree) → length (text_of (print_tokens (named m))) ≡ text_length m
text_is_told-length = whole_bytes

pub text_is_told-depth : (m : Tree) → deepest 0 (print_tokens (named m)) ≡ text_depth m
text_is_told-depth = whole_depth
