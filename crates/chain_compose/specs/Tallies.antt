-- How what is counted of a composition is told: once of each element, and then of one level after the other in numbers.
use Rattle.std.specs.Prelude.{ℕ, ◌≡◌, ◌<◌, ◌≤◌, ◌+◌, ◌*◌, Bool, true, false, List, [], ◌∷◌, length, map, drop, slice_index, slice_index_or}
use Rattle.element_lang.specs.Tree.{ExprTree, StmtTree, BodyTree}
use Rattle.element_lang.specs.Tree.ExprTree.{lit}
use Rattle.element_lang.specs.Tree.StmtTree.{let_local, choose, repeat, send}
use Rattle.element_lang.specs.Tree.BodyTree.{done, stmt}
use Rattle.element_print.specs.Lengths.{Lengths, capped, literal_length}
use Rattle.element_chain.specs.declared.chain.Wire.{Wire}
use Rattle.element_chain.specs.declared.chain.Target.{Target}
use Rattle.element_chain.specs.declared.chain.Target.TheVariants.{Element, Out}
use Rattle.element_chain.specs.Chain.{Connected, element_at}
use Rattle.element_chain.specs.Compose.{wires_of, base_of, objects_from}
use Rattle.chain_compose.specs.declared.gauge.Gauge.{Gauge}
use Rattle.chain_compose.specs.declared.gauge.Gauge.TheVariants.{Locals, Uses, Bytes, Statements, Writes}
use Rattle.chain_compose.specs.declared.figures.Scale.{Scale}
use Rattle.chain_compose.specs.declared.figures.Figures.{Figures}
use Rattle.chain_compose.specs.declared.figures.Ending.{Ending}
use Rattle.chain_compose.specs.Counts.{weight, turns, placed_count, drop_weight, tests_count, closing_count, clearing_count, end_count}

-- ## An element

-- names as an element has them, where those of locals have no bytes
abbrev pub scale_lengths : Scale → Lengths
scale_lengths scale = record { locals = []; objects = scale.objects.now; port = scale.port }

-- how much more than a `send` a local for its port counts
abbrev pub let_excess : Gauge → ℕ
let_excess Statements = 0
let_excess Writes = 0
let_excess Locals = 1
let_excess Uses = 1
let_excess Bytes = 2

-- how often what stands for a `send` counts
abbrev mutual
  pub sent_of : Gauge → StmtTree → ℕ
  sent_of g (choose cond first second) = sent_in g first + sent_in g second
  sent_of g (repeat index count body) = turns g count * sent_in g body
  sent_of g (send port) = 1
  sent_of g s = 0

  pub sent_in : Gauge → BodyTree → ℕ
  sent_in g done = 0
  sent_in g (stmt s b) = sent_of g s + sent_in g b

-- what stands first for a `send`: a local for its port, where the element has a wire, and else a `drop`
abbrev pub first_sent : Gauge → Lengths → Bool → ExprTree → ℕ
first_sent g l true port = weight g l (let_local 0 port)
first_sent g l false port = drop_weight g

-- the statements of an element, with no more for each `send` than what stands first for it
abbrev pub bare_count : Gauge → Lengths → Bool → BodyTree → ℕ
bare_count g l wired b = placed_count g l (first_sent g l wired) b

-- what stands for a `send` after that
abbrev pub after_count : Gauge → (Target → ℕ → ℕ) → List Wire → ℕ
after_count g end [] = 0
after_count g end (w ∷ ws) = tests_count g end (w ∷ ws)

abbrev pub has_wire : List Wire → Bool
has_wire [] = false
has_wire (w ∷ ws) = true

-- the bytes of the names of all objects
abbrev pub all_names : Connected → List ℕ
all_names c = map (λ o. length o.name) (objects_from 0 c.elements)

-- the names as an element uses them, where a reading of its port of arrival takes so many bytes
abbrev pub lengths_at : Connected → ℕ → ℕ → Lengths
lengths_at c e port = record { locals = []; objects = drop (base_of c.elements e) (all_names c); port = port }

-- what is told of an element
pub record AreFigures (g : Gauge) (c : Connected) (e : ℕ) (f : Figures) : Type 0 where
  pub own : (port : ℕ) → 1 ≤ port → capped (f.own + f.reads * port)
      ≡ capped (bare_count g (lengths_at c e port) (has_wire (wires_of c.wires e)) (element_at c.elements e).body)
  pub sent : f.sent ≡ capped (sent_in g (element_at c.elements e).body)
  pub closing : f.closing ≡ closing_count g (element_at c.elements e).body

abbrev pub no_figures : Figures
no_figures = record { own = 0; reads = 0; sent = 0; closing = 0 }

-- of each of the first so many elements
pub record AllFigures (g : Gauge) (c : Connected) (n : ℕ) (fs : List Figures) : Type 0 where
  pub count : length fs ≡ n
  pub each : (e : ℕ) → e < n → AreFigures g c e (slice_index_or fs e no_figures)

-- ## A level

abbrev pub no_ending : Ending
no_ending = record { fixed = 0; reads = 0 }

abbrev pub out_weight : Gauge → ℕ → ℕ
out_weight g input = weight g (record { locals = []; objects = []; port = 0 }) (send (lit input 8))

-- what is told of the end of a wire
abbrev pub told_end : Gauge → List Ending → Target → ℕ → ℕ
told_end g es Out input = out_weight g input
told_end g es (Element e) input =
    let ending = slice_index_or es e no_ending in ending.fixed + ending.reads * literal_length input 8

-- what is told of each element is what is counted there, through so many elements and no more
pub record AreEndings (g : Gauge) (c : Connected) (n : ℕ) (es : List Ending) : Type 0 where
  pub count : length es ≡ length c.elements
  pub each : (e input : ℕ) → e < length c.elements
      → capped (told_end g es (Element e) input) ≡ capped (end_count g c n (Element e) input)

-- the end of a wire to an element, where those of its own wires are told
pub record IsNext (g : Gauge) (c : Connected) (es : List Ending) (e : ℕ) (f : Figures) (made : Ending) : Type 0 where
  pub fixed : made.fixed ≡ capped (clearing_count g c + (f.own + (f.closing
      + f.sent * after_count g (told_end g es) (wires_of c.wires e))))
  pub reads : made.reads ≡ f.reads

-- ## Where the input doesn't matter

-- what is told at a level, 0 where nothing is
abbrev pub told : List (List ℕ) → ℕ → ℕ → ℕ
told levels n e = slice_index (slice_index_or levels n []) e

-- what is counted at the end of a wire to each element by its input 0, through so many elements and no more
pub record IsLevel (g : Gauge) (c : Connected) (n : ℕ) (level : List ℕ) : Type 0 where
  pub each : (e : ℕ) → e < length c.elements → slice_index level e ≡ capped (end_count g c n (Element e) 0)

-- at each of the first so many levels
pub record AreLevels (g : Gauge) (c : Connected) (count : ℕ) (levels : List (List ℕ)) : Type 0 where
  pub many : length levels ≡ count
  pub each : (n : ℕ) → n < count → IsLevel g c n (slice_index_or levels n [])
