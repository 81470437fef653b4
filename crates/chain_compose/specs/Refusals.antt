-- Why a chain isn't composed.
use Rattle.std.specs.Prelude.{◌≡◌, ℕ, suc, ◌+◌, ◌-◌, ◌<◌, ◌≤◌, ◌^◌, min, true, List, length}
use Rattle.element_lang.specs.Accepted.{deepest}
use Rattle.element_lang.specs.Sizes.{entries, writes}
use Rattle.element_lang.specs.Surface.{named}
use Rattle.element_lang.specs.Tree.{StmtTree, BodyTree, Tree}
use Rattle.element_lang.specs.Tree.StmtTree.{choose, repeat, let_local, assign, set_field, look, put, del, send, drop}
use Rattle.element_lang.specs.Tree.BodyTree.{done, stmt}
use Rattle.element_print.specs.Printed.{text_of, print_tokens}
use Rattle.element_chain.specs.Chain.{Connected, element_at}
use Rattle.element_chain.specs.Compose.{composed}
use Rattle.element_chain.specs.Laws.{RepeatsBehind, any_uses_bytes}
use Rattle.chain_compose.specs.declared.error.ComposeError.{ComposeError}
use Rattle.chain_compose.specs.declared.error.ComposeError.TheVariants.{Byte, Repeat, Statements, TooLarge, NoMemory}
use Rattle.chain_compose.specs.declared.error.What.{What}
use Rattle.chain_compose.specs.declared.error.What.TheVariants.{Objects, Entries, Writes, Depth, Bytes}

-- how many statements there are, those within others counted
abbrev mutual
  pub statements_of : StmtTree → ℕ
  statements_of (choose cond first second) = suc (statements_in first + statements_in second)
  statements_of (repeat index count body) = suc (statements_in body)
  statements_of (let_local x value) = 1
  statements_of (assign x value) = 1
  statements_of (set_field f value) = 1
  statements_of (look found into object keys) = 1
  statements_of (put ok object keys values) = 1
  statements_of (del was object keys) = 1
  statements_of (send port) = 1
  statements_of drop = 1

  pub statements_in : BodyTree → ℕ
  statements_in done = 0
  statements_in (stmt s b) = statements_of s + statements_in b

-- an element behind the entry that reads bytes of the packet as it arrived
pub record ReadsBehind (elements : List Tree) (e : ℕ) : Type 0 where
  pub behind : 0 < e
  pub there : e < length elements
  pub reads : any_uses_bytes (element_at elements e).body ≡ true

-- the first number of which something holds
pub record IsFirst (P : ℕ → Type 0) (n : ℕ) : Type 0 where
  pub here : P n
  pub none : (k : ℕ) → k < n → P k → ⊥

-- how much of it a middlebox and its text have, and how much they may have
abbrev pub amount : What → Tree → ℕ
amount Objects m = length m.objects
amount Entries m = entries m
amount Writes m = writes m
amount Depth m = deepest 0 (print_tokens (named m))
amount Bytes m = length (text_of (print_tokens (named m)))

abbrev pub allowed : What → ℕ
allowed Objects = 64
allowed Entries = 1048576
allowed Writes = 64
allowed Depth = 64
allowed Bytes = 262144

-- the order in which this is tested
abbrev pub order : What → ℕ
order Objects = 0
order Entries = 1
order Writes = 2
order Depth = 3
order Bytes = 4

-- Of what there is too much of it is the first. A count that 64 bits can't hold is told as the greatest that they can.
pub record IsTooLarge (m : Tree) (what : What) (have most : ℕ) : Type 0 where
  pub count : have ≡ min (amount what m) (2 ^ 64 - 1)
  pub limit : most ≡ allowed what
  pub above : most < have
  pub first : (other : What) → order other < order what → amount other m ≤ allowed other

abbrev pub most_statements : ℕ
most_statements = 65536

-- no element behind the entry reads bytes of the packet as it arrived
abbrev pub NoneReads : Connected → Type 0
NoneReads c = (e : ℕ) → ReadsBehind c.elements e → ⊥

-- nor does one with a `repeat` stand within another one
pub record AreInPlace (c : Connected) : Type 0 where
  pub reads : NoneReads c
  pub repeats : (e : ℕ) → RepeatsBehind c e → ⊥

-- and there are few enough statements
pub record AreFew (c : Connected) : Type 0 where
  pub placed : AreInPlace c
  pub few : statements_in (composed c).body ≤ most_statements

-- the first reason in order why a chain is refused
abbrev pub IsRefused : Connected → ComposeError → Type 0
IsRefused c (Byte e) = IsFirst (ReadsBehind c.elements) e
IsRefused c (Repeat e) = NoneReads c × IsFirst (RepeatsBehind c) e
IsRefused c Statements = AreInPlace c × (most_statements < statements_in (composed c).body)
IsRefused c (TooLarge what have most) = AreFew c × IsTooLarge (composed c) what have most
IsRefused c NoMemory = Unit {0}

-- a middlebox and its text keep the sizes
abbrev pub KeepsSizes : Tree → Type 0
KeepsSizes m = (what : What) → amount what m ≤ allowed what

-- there is no reason
pub record IsUnrefused (c : Connected) : Type 0 where
  pub few : AreFew c
  pub sizes : KeepsSizes (composed c)

-- ## one reason
-- this much is too much, and the first of which there is too much
abbrev pub IsSizeRefusal : Tree → ComposeError → Type 0
IsSizeRefusal m (TooLarge what have most) = IsTooLarge m what have most
IsSizeRefusal m NoMemory = Unit {0}
IsSizeRefusal m (Byte e) = ⊥
IsSizeRefusal m (Repeat e) = ⊥
IsSizeRefusal m Statements = ⊥

-- there are too many statements; or few enough, and too much of something
abbrev pub IsLargeRefusal : Tree → ComposeError → Type 0
IsLargeRefusal m Statements = most_statements < statements_in m.body
IsLargeRefusal m (TooLarge what have most) = (statements_in m.body ≤ most_statements) × IsTooLarge m what have most
IsLargeRefusal m NoMemory = Unit {0}
IsLargeRefusal m (Byte e) = ⊥
IsLargeRefusal m (Repeat e) = ⊥
