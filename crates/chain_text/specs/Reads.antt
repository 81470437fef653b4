-- Which texts are chains, and of which elements and wires; and why the others are none.
use Rattle.std.specs.Prelude.{◌≡◌, ◌⊎◌, ℕ, suc, ◌-◌, ◌^◌, ◌<◌, ◌≤◌, min, Bool, true, false, not, ◌&&◌, ◌||◌, ◌==◌}
use Rattle.std.specs.Prelude.{List, [], ◌∷◌, length, map, take, slice_get, Option, Some, None, codes, if◌then◌else◌}
use Rattle.std.specs.List.{AllPairs, list_any}
use Rattle.std.specs.Str.{bytes_eq}
use Rattle.element_chain.specs.declared.chain.Chain.{Chain}
use Rattle.element_chain.specs.declared.chain.Element.{Element}
use Rattle.element_chain.specs.declared.chain.Target.{Target}
use Rattle.element_chain.specs.declared.chain.Target.TheVariants as target
use Rattle.element_chain.specs.declared.chain.Wire.{Wire}
use Rattle.element_chain.specs.Wiring.{AreWithin, HasNoCycle, Leads}
use Rattle.chain_text.specs.Token.{Token, Placed, AreTokens, IsNoToken}
use Rattle.chain_text.specs.Grammar.{Statement, declares, wires, spelled, IsFirstWrong}
use Rattle.chain_text.specs.declared.error.ChainTextError.{ChainTextError}
use Rattle.chain_text.specs.declared.error.ChainTextError.TheVariants as errors

-- ## What statements say

-- the elements that they declare, in order
abbrev pub elements_of : List Statement → List Element
elements_of [] = []
elements_of (declares element class ∷ ss) = record { name = element; class = class } ∷ elements_of ss
elements_of (wires from output input to ∷ ss) = elements_of ss

-- an element has this name
abbrev pub is_named : List Element → List ℕ → Bool
is_named es word = list_any (λ (e : Element). bytes_eq e.name word) es

-- the number of the first element of this name
abbrev pub number_of : List Element → List ℕ → ℕ
number_of [] word = 0
number_of (e ∷ es) word = if bytes_eq e.name word then 0 else suc (number_of es word)

-- the word that stands for the outside
abbrev pub is_out : List ℕ → Bool
is_out word = bytes_eq word (codes "out")

-- where a wire to this name leads
abbrev pub target_of : List Element → List ℕ → Target
target_of es word = if is_out word then target.Out else target.Element (number_of es word)

-- the wires that they make between these elements, in order
abbrev pub wires_of : List Element → List Statement → List Wire
wires_of es [] = []
wires_of es (declares element class ∷ ss) = wires_of es ss
wires_of es (wires from output input to ∷ ss) =
    record { from = number_of es from; output = output; input = input; to = target_of es to } ∷ wires_of es ss

-- ## Statements that are refused

-- a statement wires this output of the element of this name
abbrev pub wires_output : List ℕ → ℕ → Statement → Bool
wires_output word output (declares element class) = false
wires_output word output (wires from other input to) = bytes_eq from word && other == output

-- A statement is refused behind others where it declares `out` or a name that they declare, or uses a name that they
-- don't declare, or wires an output that they wire.
abbrev pub is_refused : List Statement → Statement → Bool
is_refused before (declares element class) = is_out element || is_named (elements_of before) element
is_refused before (wires from output input to) =
    not (is_named (elements_of before) from) || not (is_out to || is_named (elements_of before) to)
    || list_any (wires_output from output) before

-- the statement at this place, from 0, is refused behind those before it
pub record IsRefusedAt (ss : List Statement) (place : ℕ) : Type 0 where
  pub statement : Statement
  pub there : slice_get ss place ≡ Some statement
  pub refused : is_refused (take place ss) statement ≡ true

-- and it is the first such
pub record IsFirstRefused (ss : List Statement) (place : ℕ) : Type 0 where
  pub here : IsRefusedAt ss place
  pub none : (i : ℕ) → i < place → IsRefusedAt ss i → ⊥

abbrev pub most_elements : ℕ
most_elements = 32

-- statements that declare few enough elements, and of which none is refused
pub record AreTaken (ss : List Statement) : Type 0 where
  pub few : length (elements_of ss) ≤ most_elements
  pub none : (place : ℕ) → IsRefusedAt ss place → ⊥

-- ## Texts that are chains

-- the tokens without their offsets
abbrev pub plain : List Placed → List Token
plain = map (λ t. t.token)

-- the text spells these statements
pub record IsSpelling (text : List ℕ) (ss : List Statement) : Type 0 where
  pub placed : List Placed
  pub tokens : AreTokens text placed
  pub spells : plain placed ≡ spelled ss

-- The text is that of this chain: its statements are taken and declare an element, these are their elements and wires,
-- and no wires lead from an element back to it.
pub record IsChainText (text : List ℕ) (chain : Chain) : Type 0 where
  pub statements : List Statement
  pub spelling : IsSpelling text statements
  pub taken : AreTaken statements
  pub some : 0 < length (elements_of statements)
  pub elements : chain.elements ≡ elements_of statements
  pub wires : chain.wires ≡ wires_of (elements_of statements) statements
  pub acyclic : HasNoCycle chain.wires

-- ## Why a text is none, in the order in which this is tested

-- the offset of the token at this place, or the length of the text where there is none
abbrev pub offset_or : ℕ → Option Placed → ℕ
offset_or end None = end
offset_or end (Some t) = t.offset

abbrev pub offset_at : List ℕ → List Placed → ℕ → ℕ
offset_at text placed place = offset_or (length text) (slice_get placed place)

-- a text that has tokens, of which the first wrong one is at this offset
pub record IsOutsideGrammar (text : List ℕ) (offset : ℕ) : Type 0 where
  pub placed : List Placed
  pub tokens : AreTokens text placed
  pub place : ℕ
  pub first : IsFirstWrong (plain placed) place
  pub there : offset ≡ offset_at text placed place

-- a count that 32 bits can't hold is told as the greatest that they can
abbrev pub told : ℕ → ℕ
told n = min n (2 ^ 32 - 1)

-- a text whose statements declare so many elements, which are too many
pub record HasManyElements (text : List ℕ) (have : ℕ) : Type 0 where
  pub statements : List Statement
  pub spelling : IsSpelling text statements
  pub above : most_elements < length (elements_of statements)
  pub count : have ≡ told (length (elements_of statements))

-- a text with few enough elements, whose statement of this number, from 1, is the first that is refused
pub record HasRefused (text : List ℕ) (number : ℕ) : Type 0 where
  pub statements : List Statement
  pub spelling : IsSpelling text statements
  pub few : length (elements_of statements) ≤ most_elements
  pub place : ℕ
  pub first : IsFirstRefused statements place
  pub count : number ≡ told (suc place)

-- a text whose statements are taken, and declare no element
pub record HasNoElement (text : List ℕ) : Type 0 where
  pub statements : List Statement
  pub spelling : IsSpelling text statements
  pub taken : AreTaken statements
  pub none : elements_of statements ≡ []

-- A text whose statements are taken and declare an element, and whose wires lead from one back to it. The entry need
-- not lead there.
pub record HasCycle (text : List ℕ) : Type 0 where
  pub statements : List Statement
  pub spelling : IsSpelling text statements
  pub taken : AreTaken statements
  pub some : 0 < length (elements_of statements)
  pub element : ℕ
  pub leads : Leads (wires_of (elements_of statements) statements) element element

-- the text is refused for this
abbrev pub IsRefused : List ℕ → ChainTextError → Type 0
IsRefused text (errors.Syntax offset) = IsNoToken text offset ⊎ IsOutsideGrammar text offset
IsRefused text (errors.Elements have) = HasManyElements text have
IsRefused text (errors.Statement number) = HasRefused text number
IsRefused text errors.Empty = HasNoElement text
IsRefused text errors.Cycle = HasCycle text
IsRefused text errors.NoMemory = Unit {0}

-- ## What every chain that was read keeps

-- no output of an element is wired twice
abbrev pub AreWiredOnce : List Wire → Type 0
AreWiredOnce = AllPairs (λ v w. v.from ≡ w.from → v.output ≡ w.output → ⊥)

-- A chain that can be composed has 1 to 32 elements, its wires are between them, no output is wired twice, and no wires
-- lead from an element back to it.
pub record IsComposable (chain : Chain) : Type 0 where
  pub some : 0 < length chain.elements
  pub few : length chain.elements ≤ most_elements
  pub within : AreWithin (length chain.elements) chain.wires
  pub once : AreWiredOnce chain.wires
  pub acyclic : HasNoCycle chain.wires
