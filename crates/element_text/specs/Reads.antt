-- When the answer of the reader is right: it is the only one.
use Rattle.std.specs.Prelude.{◌≡◌, ◌≢◌, ◌⊎◌, ◌≤◌, ◌<◌, ◌-◌, ◌^◌, min, ℕ, List, IsTrue, IsUtf8, Result, Ok, Err, None}
use Rattle.element_lang.specs.declared.sizes.What.TheVariants.{Depth, Entries, Writes}
use Rattle.element_lang.specs.Bounds.{limit_of}
use Rattle.element_lang.specs.declared.tree.Middlebox.{Middlebox}
use Rattle.element_lang.specs.Token.{Token, Placed, AreTokens, IsNoToken}
use Rattle.element_lang.specs.Tree.{Tree}
use Rattle.element_lang.specs.View.{tree}
use Rattle.element_lang.specs.Surface.{Surface, unplaced, named}
use Rattle.element_lang.specs.Grammar.{Spells}
use Rattle.element_lang.specs.Rules.{is_good}
use Rattle.element_lang.specs.Broken.{first_broken}
use Rattle.element_lang.specs.Sizes.{entries, writes}
use Rattle.element_lang.specs.Accepted.{deepest, plain, IsSource, HasNames}
use Rattle.element_text.specs.declared.error.TextError.{TextError}
use Rattle.element_text.specs.declared.error.TextError.TheVariants.{TooLarge, NoMemory}
use Rattle.element_text.specs.Names.{HasSurfaceNames}
use Rattle.element_text.specs.Refused.{IsRefused}

-- the text is a source of this middlebox, and neither one of another nor refused
pub record IsOnlySource (text : List ℕ) (m : Tree) : Type 0 where
  pub source : IsSource text m
  pub only : (other : Tree) → IsSource text other → other ≡ m
  pub names : HasNames m
  pub accepted : (e : TextError) → e ≢ NoMemory → IsRefused text e → ⊥

-- it is refused for this, and neither for anything else nor a source
pub record IsOnlyRefused (text : List ℕ) (e : TextError) : Type 0 where
  pub refused : IsRefused text e
  pub only : (other : TextError) → other ≢ NoMemory → IsRefused text other → other ≡ e
  pub none : (m : Tree) → IsSource text m → ⊥

-- this is the right answer for the text
abbrev pub IsAnswer : List ℕ → Result Middlebox TextError → Type 0
IsAnswer text (Ok m) = IsOnlySource text (tree m)
IsAnswer text (Err e) = (e ≡ NoMemory) ⊎ IsOnlyRefused text e

-- the text is UTF-8, and these are its only tokens
pub record HasOnlyTokens (text : List ℕ) (placed : List Placed) : Type 0 where
  pub utf8 : IsUtf8 text
  pub tokens : AreTokens text placed
  pub only : (others : List Placed) → AreTokens text others → others ≡ placed
  pub whole : (offset : ℕ) → IsNoToken text offset → ⊥

-- and these spell this surface tree only
pub record HasOnlySurface (text : List ℕ) (placed : List Placed) (surface : Surface) : Type 0 where
  pub read : HasOnlyTokens text placed
  pub depth : deepest 0 (plain placed) ≤ limit_of Depth
  pub spells : Spells (plain placed) surface
  pub one : (other : Surface) → Spells (plain placed) other → other ≡ surface

-- the middlebox has few enough entries and writes
pub record KeepsSizes (m : Tree) : Type 0 where
  pub entries : entries m ≤ limit_of Entries
  pub writes : writes m ≤ limit_of Writes

-- it has too many of one of them, entries first
abbrev pub IsTooLarge : Tree → TextError → Type 0
IsTooLarge m (TooLarge Entries have allowed) =
    (have ≡ min (entries m) (2 ^ 64 - 1)) × (allowed ≡ limit_of Entries) × (allowed < have)
IsTooLarge m (TooLarge Writes have allowed) =
    (entries m ≤ limit_of Entries) × (have ≡ min (writes m) (2 ^ 64 - 1)) × (allowed ≡ limit_of Writes)
    × (allowed < have)
IsTooLarge m _ = ⊥

-- the middlebox keeps the rules and is this surface tree, once its names are put back
pub record Keeps (surface : Surface) (m : Tree) : Type 0 where
  pub named : unplaced surface ≡ named m
  pub good : IsTrue (is_good m)

-- some tokens spell the surface tree, and no rule is broken in it
pub record IsUnbroken (surface : Surface) : Type 0 where
  pub tokens : List Token
  pub spells : Spells tokens surface
  pub none : first_broken surface ≡ None

-- this is the one middlebox of the surface tree, where that keeps the sizes
abbrev pub IsResolved : Surface → Result Middlebox TextError → Type 0
IsResolved surface (Ok m) =
    Keeps surface (tree m) × (HasSurfaceNames surface → HasNames (tree m)) × KeepsSizes (tree m)
IsResolved surface (Err e) = (e ≡ NoMemory) ⊎ ((m : Tree) × Keeps surface m × IsTooLarge m e)
