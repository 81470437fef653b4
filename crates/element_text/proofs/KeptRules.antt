-- A surface tree that breaks no rule has one middlebox, which keeps them.
use Rattle.std.proofs.Common.{◌≡◌, Option, Some, None, refl, sym, ◌∙◌}
use Rattle.std.proofs.lemmas.Option.{same_Some}
use Rattle.element_lang.specs.declared.broken.Broken.{Broken}
use Rattle.element_lang.specs.Tree.{Tree}
use Rattle.element_lang.specs.Surface.{Surface}
use Rattle.element_lang.specs.Broken.{first_broken}
use Rattle.element_text.specs.Reads.{Keeps}
use Rattle.element_text.proofs.Unplaced.{resolved_whole}
use Rattle.element_text.proofs.Agree.{broken}

pub one_kept : (surface : Surface) (m n : Tree) → Keeps surface m → Keeps surface n → m ≡ n
one_kept surface m n k l = same_Some _ _ (sym (resolved_whole surface m k.good k.named) ∙ resolved_whole surface n l.good l.named)

pub unbroken_kept : (surface : Surface) (m : Tree) → Keeps surface m → first_broken surface ≡ None
unbroken_kept surface m k = go (first_broken surface) refl
  where
    go : (o : Option Broken) → first_broken surface ≡ o → o ≡ None
    go None is = refl
    go (Some b) is = let none = broken surface b is in let some = resolved_whole surface m k.good k.named in absurd cc
