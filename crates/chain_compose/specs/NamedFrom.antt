-- How often locals are named whose numbers in the whole are at least so much, told from the elements alone.
use Rattle.std.specs.Prelude.{◌≡◌, ℕ, zero, suc, ◌+◌, ◌≤◌, ◌<◌, Bool, true, false, List, [], ◌∷◌, ◌++◌, map}
use Rattle.std.specs.Prelude.{nat_le, slice_index, if◌then◌else◌}
use Rattle.element_lang.specs.Tree.{ExprTree, StmtTree, BodyTree}
use Rattle.element_lang.specs.Tree.StmtTree.{let_local, assign, set_field, look, put, del, choose, repeat, send, drop}
use Rattle.element_lang.specs.Tree.BodyTree.{done, stmt}
use Rattle.element_print.specs.Lengths.{capped}
use Rattle.element_chain.specs.declared.chain.Wire.{Wire}
use Rattle.element_chain.specs.declared.chain.Target.{Target}
use Rattle.element_chain.specs.declared.chain.Target.TheVariants.{Element, Out}
use Rattle.element_chain.specs.Chain.{Connected, element_at}
use Rattle.element_chain.specs.Compose.{wires_of}
use Rattle.chain_compose.specs.declared.gauge.Gauge.{Gauge}
use Rattle.chain_compose.specs.declared.gauge.Gauge.TheVariants.{Locals, Uses}
use Rattle.chain_compose.specs.declared.named.Tables.{Tables}
use Rattle.chain_compose.specs.declared.named.Tally.{Tally}
use Rattle.chain_compose.specs.declared.name_steps.Step.{Step}
use Rattle.chain_compose.specs.declared.name_steps.Step.TheVariants.{Name, Declare, Send}
use Rattle.chain_compose.specs.Counts.{used_by_expr, used_by_exprs, end_count}
use Rattle.chain_compose.specs.Tallies.{told}
use Rattle.chain_compose.specs.SendLevels.{has_wires}

-- ## Numbers

-- 1 for a number that is at least so much, and else 0
abbrev pub is_from : ℕ → ℕ → ℕ
is_from least number = if nat_le least number then 1 else 0

-- how many of these numbers are at least so much
abbrev pub count_from : ℕ → List ℕ → ℕ
count_from least [] = 0
count_from least (x ∷ xs) = is_from least x + count_from least xs

-- ## What the statements of an element do with locals, in order

abbrev pub named : List ℕ → List Step
named [] = []
named (x ∷ xs) = Name x ∷ named xs

-- as many locals as these are declared
abbrev pub all_declared_steps : List ℕ → List Step
all_declared_steps [] = []
all_declared_steps (x ∷ xs) = Declare ∷ all_declared_steps xs

-- nothing stands for the port of a `send` where the element has no wire
abbrev pub send_steps : Bool → ExprTree → List Step
send_steps true port = named (used_by_expr port) ++ Send ∷ []
send_steps false port = []

abbrev mutual
  pub stmt_steps : Bool → StmtTree → List Step
  stmt_steps wired (let_local x value) = named (used_by_expr value) ++ Declare ∷ []
  stmt_steps wired (assign x value) = Name x ∷ named (used_by_expr value)
  stmt_steps wired (set_field f value) = named (used_by_expr value)
  stmt_steps wired (look found into object keys) =
      named (used_by_exprs keys) ++ Declare ∷ all_declared_steps into
  stmt_steps wired (put ok object keys values) =
      named (used_by_exprs keys) ++ (named (used_by_exprs values) ++ Declare ∷ [])
  stmt_steps wired (del was object keys) = named (used_by_exprs keys) ++ Declare ∷ []
  stmt_steps wired (choose cond first second) =
      named (used_by_expr cond) ++ (body_steps wired first ++ body_steps wired second)
  stmt_steps wired (repeat index count body) = Declare ∷ body_steps wired body
  stmt_steps wired (send port) = send_steps wired port
  stmt_steps wired drop = []

  pub body_steps : Bool → BodyTree → List Step
  body_steps wired done = []
  body_steps wired (stmt s b) = stmt_steps wired s ++ body_steps wired b

-- ## Elements where they stand in the whole

-- how many locals are declared at the end of a wire to a target's input
abbrev pub Spans : Type 0
Spans = Target → ℕ → ℕ

-- and how often a local from the least number on is named there, where so many are declared before
abbrev pub Namings : Type 0
Namings = Target → ℕ → ℕ → ℕ

abbrev pub tests_span : Spans → List Wire → ℕ
tests_span span [] = 0
tests_span span (w ∷ ws) = span w.to w.input + tests_span span ws

-- each test names the local v
abbrev pub tests_from : ℕ → Spans → Namings → ℕ → List Wire → ℕ → ℕ
tests_from least span from v [] before = 0
tests_from least span from v (w ∷ ws) before =
    is_from least v
    + (from w.to w.input before + tests_from least span from v ws (before + span w.to w.input))

-- how far an element's locals are numbered, and how often one from the least number on is named so far
pub record Naming : Type 0 where
  pub names : List ℕ
  pub next : ℕ
  pub count : ℕ

-- the next number goes to a local, and its declaration names it
abbrev pub declared : ℕ → Naming → Naming
declared least n =
    record { names = n.names ++ n.next ∷ []; next = suc n.next; count = n.count + is_from least n.next }

abbrev pub stepped : ℕ → Spans → Namings → List Wire → Step → Naming → Naming
stepped least span from wires (Name x) n =
    record { names = n.names; next = n.next; count = n.count + is_from least (slice_index n.names x) }
stepped least span from wires Declare n = declared least n
stepped least span from wires Send n =
    record {
      names = n.names;
      next = suc n.next + tests_span span wires;
      count = n.count + (is_from least n.next + tests_from least span from n.next wires (suc n.next));
    }

abbrev pub all_stepped : ℕ → Spans → Namings → List Wire → List Step → Naming → Naming
all_stepped least span from wires [] n = n
all_stepped least span from wires (s ∷ ss) n =
    all_stepped least span from wires ss (stepped least span from wires s n)

abbrev pub started : ℕ → Naming
started before = record { names = []; next = before; count = 0 }

-- an element's own steps
abbrev pub own_steps : Connected → ℕ → List Step
own_steps c e = body_steps (has_wires (wires_of c.wires e)) (element_at c.elements e).body

abbrev pub element_from : Connected → ℕ → Spans → Namings → ℕ → ℕ → ℕ
element_from c least span from e before =
    (all_stepped least span from (wires_of c.wires e) (own_steps c e) (started before)).count

-- what stands at the end of a wire, through so many elements and no more
abbrev pub end_from : Connected → ℕ → ℕ → Namings
end_from c least n Out input before = 0
end_from c least zero (Element e) input before = 0
end_from c least (suc n) (Element e) input before =
    element_from c least (end_count Locals c n) (end_from c least n) e before

-- ## Where counts are told of each level

-- of as many elements it is told what is counted at the end of a wire to each, through up to as many and no more
pub record AreTold (g : Gauge) (c : Connected) (count : ℕ) (levels : List (List ℕ)) : Type 0 where
  pub each : (n e input : ℕ) → n ≤ count → e < count → told levels n e ≡ capped (end_count g c n (Element e) input)

-- how many locals are declared there, and how often one is named
pub record AreTables (c : Connected) (count : ℕ) (tables : Tables) : Type 0 where
  pub locals : AreTold Locals c count tables.locals.now
  pub uses : AreTold Uses c count tables.uses.now

-- ## Where numbers stop at the greatest of 64 bits

pub record IsTally (names : List ℕ) (tally : Tally) (n : Naming) : Type 0 where
  pub numbers : names ≡ map capped n.names
  pub next : tally.next ≡ capped n.next
  pub count : tally.count ≡ capped n.count
