-- How several locals are declared from front to back.
use Rattle.std.proofs.Common.{◌≡◌, ℕ, List, ◌++◌}
use Rattle.state_store.specs.declared.object.ObjectDecl.{ObjectDecl}
use Rattle.element_lang.specs.declared.tree.Local.{Local}
use Rattle.element_lang.specs.Broken.{are_free, locals_of}

-- Locals that are declared so far and those that are left are all; all are free where those that are left are.
pub record Declaring (objects : List ObjectDecl) (before now : List Local) (left_names names : List (List ℕ))
    (left_widths widths : List ℕ) : Type 0 where
  pub scope : now ++ locals_of left_names left_widths ≡ before ++ locals_of names widths
  pub names_free : are_free objects now (locals_of left_names left_widths) ≡ are_free objects before (locals_of names widths)
