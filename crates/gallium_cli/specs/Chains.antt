-- Chains of elements: what their files tell, and why no source is made of one.
use Rattle.std.specs.Prelude.{◌≡◌, ◌≢◌, ◌≤◌, ◌<◌, ◌+◌, ◌⊎◌, ℕ, IsTrue, not, List, [], ◌∷◌, ◌++◌, length, map, filter}
use Rattle.std.specs.Prelude.{slice_get, Option, Some, None, IfSome, codes}
use Rattle.std.specs.Option.{option_map}
use Rattle.std.specs.Str.{bytes_eq}
use Rattle.gal_io.specs.Files.{FilesState}
use Rattle.packet_fields.specs.declared.packet.Packet.{Packet}
use Rattle.packet_fields.specs.Arrivals.{IsArrival}
use Rattle.state_store.specs.Kept.{IsKept}
use Rattle.state_store.specs.Store.{Store, object_at}
use Rattle.element_lang.specs.Meaning.{source_store, source_verdict}
use Rattle.element_lang.specs.Rules.{is_good}
use Rattle.element_lang.specs.Surface.{named}
use Rattle.element_lang.specs.Tree.{Tree}
use Rattle.element_print.specs.Printed.{print_tokens, text_of}
use Rattle.element_lang.specs.Accepted.{IsSource}
use Rattle.element_chain.specs.declared.chain.Chain.{Chain}
use Rattle.element_chain.specs.declared.chain.Element.{Element}
use Rattle.element_chain.specs.Chain.{Connected, element_at, store_at, chain_run}
use Rattle.element_chain.specs.Compose.{composed, joined, base_of}
use Rattle.element_chain.specs.Laws.{AreKept}
use Rattle.chain_text.specs.Reads.{IsChainText}
use Rattle.chain_compose.specs.Refusals as composing
use Rattle.chain_compose.specs.declared.error.ComposeError.{ComposeError}
use Rattle.chain_compose.specs.declared.error.ComposeError.TheVariants as errors
use Rattle.gallium_cli.specs.declared.refusal.Uncomposed.{Uncomposed}
use Rattle.gallium_cli.specs.declared.refusal.Refusal.{Refusal}
use Rattle.gallium_cli.specs.declared.refusal.Refusal.TheVariants as refusals
use Rattle.gallium_cli.specs.Roles.{source, wiring, size_of, IsFirst, IsGood, IsOnlySource}
use Rattle.gallium_cli.specs.Loads.{IsFileRefused, IsFileTooLong, IsFileFaulty, raised_by}

-- ## The files of a chain

-- the words of a list, each where it stands first
abbrev pub firsts : List (List ℕ) → List (List ℕ)
firsts [] = []
firsts (w ∷ ws) = w ∷ filter (λ v. not (bytes_eq v w)) (firsts ws)

-- the file of a class
abbrev pub file_of : List ℕ → List ℕ
file_of class = class ++ codes ".gal"

-- the files of the classes of elements, in order of first use
abbrev pub class_files : List Element → List (List ℕ)
class_files es = map file_of (firsts (map (λ (e : Element). e.class) es))

-- the element at this place is of this class
abbrev pub IsPlaceOf : List Element → List ℕ → ℕ → Type 0
IsPlaceOf es class e = (x : Element) × (slice_get es e ≡ Some x) × (x.class ≡ class)

-- the chain is the one that the told content spells
abbrev pub IsWired : (List ℕ → Option (List ℕ)) → List ℕ → Chain → Type 0
IsWired told w chain = IfSome (told w) (λ text. (length text ≤ size_of wiring) × IsChainText text chain)

-- Each element has the middlebox that the file of its class spells, where that is told, and elements of one class have
-- one middlebox.
pub record AreClasses (told : List ℕ → Option (List ℕ)) (es : List Element) (ms : List Tree) : Type 0 where
  pub count : length ms ≡ length es
  pub each : (e : ℕ) (x : Element) (m : Tree) → slice_get es e ≡ Some x → slice_get ms e ≡ Some m
      → IfSome (told (file_of x.class)) (λ text. (length text ≤ size_of source) × IsOnlySource text m)
  pub same : (d e : ℕ) (x y : Element) → slice_get es d ≡ Some x → slice_get es e ≡ Some y
      → x.class ≡ y.class → slice_get ms d ≡ slice_get ms e

-- elements with these middleboxes, and the wires between them
abbrev pub connected : Chain → List Tree → Connected
connected chain ms = record { elements = ms; wires = chain.wires }

-- ## One source of a chain

-- The text is a source of the connected elements, for whose composition nothing stands in the way. It is what is
-- printed of the middlebox that is composed of them, and
-- is read back as that. From all stores of the elements that keep what was declared, and for every packet that may
-- arrive, that middlebox has the verdict of the chain, and leaves the stores of the chain, object by object; and each
-- store of it that keeps what was declared is made of such stores.
pub record IsOneSource (c : Connected) (text : List ℕ) : Type 0 where
  pub unrefused : composing.IsUnrefused c
  pub printed : text ≡ text_of (print_tokens (named (composed c)))
  pub source : IsSource text (composed c)
  pub rules : IsTrue (is_good (composed c))
  pub verdict : (stores : List Store) (packet : Packet) → AreKept c.elements stores → IsArrival packet
      → source_verdict (composed c) (joined stores) packet ≡ (chain_run c stores packet).verdict
  pub stores : (stores : List Store) (packet : Packet) → AreKept c.elements stores → IsArrival packet
      → source_store (composed c) (joined stores) packet ≡ joined (chain_run c stores packet).stores
  pub objects : (stores : List Store) (packet : Packet) (e o : ℕ) → AreKept c.elements stores → IsArrival packet
      → e < length c.elements → o < length (element_at c.elements e).objects
      → object_at (source_store (composed c) (joined stores) packet) (base_of c.elements e + o)
      ≡ object_at (store_at (chain_run c stores packet).stores e) o
  pub parts : (store : Store) → IsKept (composed c).objects store
      → (stores : List Store) × AreKept c.elements stores × (store ≡ joined stores)

-- ## How often files are read

-- the names of the files of a chain: its own, and those of its classes
abbrev pub AreAllNames : (List ℕ → Option (List ℕ)) → List ℕ → List (List ℕ) → Type 0
AreAllNames told w names = (chain : Chain) × IsWired told w chain × (names ≡ w ∷ class_files chain.elements)

-- those that it came to: its own alone, where no chain is known, or all
abbrev pub AreNames : (List ℕ → Option (List ℕ)) → List ℕ → List (List ℕ) → Type 0
AreNames told w names = (names ≡ w ∷ []) ⊎ AreAllNames told w names

-- the files of the classes when there is one more element: the same ones, and no file was read; or one more, which was
abbrev pub ReadsNext : List (List ℕ) → List (List ℕ) → ℕ → ℕ → Type 0
ReadsNext before now reads reads_now =
    ((now ≡ before) × (reads_now ≡ reads))
    ⊎ ((name : List ℕ) × (now ≡ before ++ name ∷ []) × (reads_now ≡ raised_by 1 reads))

-- no file was read, or that one more was
abbrev pub MayReadNext : List (List ℕ) → List (List ℕ) → ℕ → ℕ → Type 0
MayReadNext before now reads reads_now =
    (reads_now ≡ reads) ⊎ ((name : List ℕ) × (now ≡ before ++ name ∷ []) × (reads_now ≡ raised_by 1 reads))

-- ## Why no source is made of a chain

-- the file of a class is refused
abbrev pub IsClassRefused : Refusal → List ℕ → FilesState → FilesState → Type 0
IsClassRefused (refusals.ClassSource fault file) name f f' =
    (file ≡ name) × IsFileRefused (refusals.Source fault) source name f f'
IsClassRefused (refusals.ClassTooLong file) name f f' = (file ≡ name) × IsFileTooLong source name f f'
IsClassRefused (refusals.ClassReadFault file) name f f' = (file ≡ name) × IsFileFaulty name f f'
IsClassRefused refusals.NoMemory name f f' = Unit {0}
IsClassRefused _ name f f' = ⊥

-- what is told of the file of a class that is refused
abbrev pub class_refusal : Refusal → List ℕ → Refusal
class_refusal (refusals.Source fault) name = refusals.ClassSource fault name
class_refusal (refusals.TooLong blamed) name = refusals.ClassTooLong name
class_refusal (refusals.ReadFault blamed) name = refusals.ClassReadFault name
class_refusal _ name = refusals.NoMemory

-- there is no middlebox of one more element: no memory was found, or its class is a new one, whose file is refused
abbrev pub IsNextRefused : Refusal → List (List ℕ) → List (List ℕ) → FilesState → FilesState → Type 0
IsNextRefused refusal before now f f' =
    (refusal ≡ refusals.NoMemory)
    ⊎ ((name : List ℕ) × (now ≡ before ++ name ∷ []) × IsClassRefused refusal name f f')

-- the name of the element that stands in the way, where one does
abbrev pub element_of : List Element → ComposeError → Option (List ℕ)
element_of es (errors.Byte number) = option_map (λ (e : Element). e.name) (slice_get es number)
element_of es (errors.Repeat number) = option_map (λ (e : Element). e.name) (slice_get es number)
element_of es _ = None

-- what is told of a chain that isn't composed
abbrev pub uncomposed_of : List Element → ComposeError → Uncomposed
uncomposed_of es error = record { error = error; element = element_of es error }

-- a chain of these middleboxes isn't composed
abbrev pub IsUncomposed : Refusal → Chain → List Tree → Type 0
IsUncomposed (refusals.Uncomposed told) chain ms =
    (error : ComposeError) × (error ≢ errors.NoMemory) × composing.IsRefused (connected chain ms) error
    × (told ≡ uncomposed_of chain.elements error)
IsUncomposed refusals.NoMemory chain ms = Unit {0}
IsUncomposed _ chain ms = ⊥

-- the first of the files that is refused
abbrev pub IsFirstClassRefused : Refusal → List (List ℕ) → FilesState → FilesState → Type 0
IsFirstClassRefused refusal names f f' =
    IsFirst (λ name. IfSome (f.told name) (IsGood source)) (λ name. IsClassRefused refusal name f f') names

-- The chain of a file isn't made one source: the file of a class is refused, each before it is good; or all middleboxes
-- are there, and the chain isn't composed of them.
abbrev pub IsChainRefused : Refusal → List ℕ → FilesState → FilesState → Type 0
IsChainRefused refusal w f f' =
    (chain : Chain) × IsWired f.told w chain
    × (IsFirstClassRefused refusal (class_files chain.elements) f f'
    ⊎ ((ms : List Tree) × AreClasses f.told chain.elements ms × IsUncomposed refusal chain ms))

-- the chain of a file is composed
abbrev pub IsChainPassed : List ℕ → (List ℕ → Option (List ℕ)) → Type 0
IsChainPassed w told =
    (chain : Chain) × (ms : List Tree)
    × IsWired told w chain × AreClasses told chain.elements ms × composing.IsUnrefused (connected chain ms)
