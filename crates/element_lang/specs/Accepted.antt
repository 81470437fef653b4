-- Which texts are sources, and of which middlebox.
use Rattle.std.specs.Prelude.{◌≡◌, ℕ, ◌+◌, ◌-◌, ◌≤◌, ◌<◌, ◌^◌, min, max, List, [], ◌∷◌, length, map, take, slice_get}
use Rattle.std.specs.Prelude.{IsTrue, IsUtf8, Option, Some, None}
use Rattle.element_lang.specs.declared.mark.Mark.TheVariants.{LeftParen, RightParen, LeftBracket, RightBracket}
use Rattle.element_lang.specs.declared.mark.Mark.TheVariants.{LeftBrace, RightBrace}
use Rattle.element_lang.specs.declared.sizes.What.TheVariants.{Depth, Objects, Entries, Writes}
use Rattle.std.specs.List.{All}
use Rattle.state_store.specs.declared.object.ObjectDecl.{ObjectDecl}
use Rattle.element_lang.specs.declared.tree.Local.{Local}
use Rattle.element_lang.specs.Token.{Token, fixed, IsName, Placed, AreTokens, IsNoToken}
use Rattle.element_lang.specs.Tree.{Tree}
use Rattle.element_lang.specs.Surface.{Surface, unplaced, named}
use Rattle.element_lang.specs.Grammar.{Spells, IsFirstWrong}
use Rattle.element_lang.specs.Rules.{is_good}
use Rattle.element_lang.specs.Broken.{first_broken}
use Rattle.element_lang.specs.Bounds.{limit_of}
use Rattle.element_lang.specs.Sizes.{entries, writes}

-- How many brackets are open behind a token, where so many were open before it. One that closes closes the last open
-- one
-- of whatever kind, or nothing where none is open.
abbrev pub open_after : Token → ℕ → ℕ
open_after (fixed LeftParen) n = n + 1
open_after (fixed LeftBracket) n = n + 1
open_after (fixed LeftBrace) n = n + 1
open_after (fixed RightParen) n = n - 1
open_after (fixed RightBracket) n = n - 1
open_after (fixed RightBrace) n = n - 1
open_after t n = n

-- the tokens without their offsets
abbrev pub plain : List Placed → List Token
plain = map (λ t. t.token)

-- the greatest number of brackets that are open at once, where n are open before these tokens
abbrev pub deepest : ℕ → List Token → ℕ
deepest n [] = n
deepest n (t ∷ ts) = max n (deepest (open_after t n) ts)

-- The text spells this middlebox, which keeps the rules: the tokens spell a surface tree that is the middlebox with its
-- names put
-- back. Brackets are open only so deep, and there are few enough objects.
pub record IsSpelling (text : List ℕ) (m : Tree) : Type 0 where
  pub utf8 : IsUtf8 text
  pub placed : List Placed
  pub tokens : AreTokens text placed
  pub depth : deepest 0 (plain placed) ≤ limit_of Depth
  pub surface : Surface
  pub spells : Spells (plain placed) surface
  pub few_objects : length surface.objects ≤ limit_of Objects
  pub named : unplaced surface ≡ named m
  pub good : IsTrue (is_good m)

-- The text is a source of this middlebox: it spells it, and the middlebox keeps the sizes.
pub record IsSource (text : List ℕ) (m : Tree) : Type 0 where
  pub spelling : IsSpelling text m
  pub few_entries : entries m ≤ limit_of Entries
  pub few_writes : writes m ≤ limit_of Writes

-- every object and every local has a name that can be written
pub record HasNames (m : Tree) : Type 0 where
  pub objects : All (λ (o : ObjectDecl). IsName o.name) m.objects
  pub locals : All (λ (l : Local). IsName l.name) m.locals

-- ## Why a text is no source, in the order in which this is tested

-- its longest beginning that is UTF-8 has so many bytes, and isn't all of it
pub record IsNotUtf8 (text : List ℕ) (offset : ℕ) : Type 0 where
  pub within : offset < length text
  pub begins : IsUtf8 (take offset text)
  pub longest : (n : ℕ) → offset < n → n ≤ length text → IsUtf8 (take n text) → ⊥

-- it is UTF-8, and no token starts at this offset, where one has to
pub record HasNoToken (text : List ℕ) (offset : ℕ) : Type 0 where
  pub utf8 : IsUtf8 text
  pub none : IsNoToken text offset

-- it has tokens, and of their brackets so many are open at once, which are too many
pub record IsTooDeep (text : List ℕ) (have allowed : ℕ) : Type 0 where
  pub utf8 : IsUtf8 text
  pub placed : List Placed
  pub tokens : AreTokens text placed
  pub most : have ≡ deepest 0 (plain placed)
  pub limit : allowed ≡ limit_of Depth
  pub above : allowed < have

-- the offset of the token at this place, or the length of the text where there is none
abbrev pub offset_or : ℕ → Option Placed → ℕ
offset_or end None = end
offset_or end (Some t) = t.offset

abbrev pub offset_at : List ℕ → List Placed → ℕ → ℕ
offset_at text placed place = offset_or (length text) (slice_get placed place)

-- it has tokens with few enough open brackets, and the first wrong one is at this offset
pub record IsOutsideGrammar (text : List ℕ) (offset : ℕ) : Type 0 where
  pub utf8 : IsUtf8 text
  pub placed : List Placed
  pub tokens : AreTokens text placed
  pub depth : deepest 0 (plain placed) ≤ limit_of Depth
  pub place : ℕ
  pub first : IsFirstWrong (plain placed) place
  pub there : offset ≡ offset_at text placed place

-- its tokens spell a surface tree that declares so many objects, which are too many
pub record HasManyObjects (text : List ℕ) (have allowed : ℕ) : Type 0 where
  pub utf8 : IsUtf8 text
  pub placed : List Placed
  pub tokens : AreTokens text placed
  pub depth : deepest 0 (plain placed) ≤ limit_of Depth
  pub surface : Surface
  pub spells : Spells (plain placed) surface
  pub count : have ≡ length surface.objects
  pub limit : allowed ≡ limit_of Objects
  pub above : allowed < have

-- its tokens spell a surface tree, and of the declarations and statements that break a rule the first is at this
-- offset, and this is
-- the lowest rule that it breaks
pub record BreaksRule (text : List ℕ) (rule offset : ℕ) : Type 0 where
  pub utf8 : IsUtf8 text
  pub placed : List Placed
  pub tokens : AreTokens text placed
  pub depth : deepest 0 (plain placed) ≤ limit_of Depth
  pub surface : Surface
  pub spells : Spells (plain placed) surface
  pub few_objects : length surface.objects ≤ limit_of Objects
  pub at : ℕ
  pub first : first_broken surface ≡ Some (record { rule = rule; at = at })
  pub there : offset ≡ offset_at text placed (length placed - at)

-- A source of a middlebox that keeps the rules and has room for so many rows, which are too many. A count that 64 bits
-- can't hold is told as the greatest that they can.
pub record HasManyEntries (text : List ℕ) (have allowed : ℕ) : Type 0 where
  pub m : Tree
  pub spelling : IsSpelling text m
  pub count : have ≡ min (entries m) (2 ^ 64 - 1)
  pub limit : allowed ≡ limit_of Entries
  pub above : allowed < have

-- it has few enough, and so many statements that write, which are too many; the count is told likewise
pub record HasManyWrites (text : List ℕ) (have allowed : ℕ) : Type 0 where
  pub m : Tree
  pub spelling : IsSpelling text m
  pub few_entries : entries m ≤ limit_of Entries
  pub count : have ≡ min (writes m) (2 ^ 64 - 1)
  pub limit : allowed ≡ limit_of Writes
  pub above : allowed < have
