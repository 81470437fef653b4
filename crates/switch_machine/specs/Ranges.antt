-- Where the values of a pass's instructions stand.
use Rattle.std.specs.Prelude.{◌≡◌, ◌≢◌, ◌<◌, ◌≤◌, ◌+◌, ◌-◌, ◌^◌, ◌==◌, ℕ, suc, true, max, min, List, [], ◌∷◌, ◌++◌, map}
use Rattle.std.specs.Prelude.{if◌then◌else◌, Contains}
use Rattle.std.specs.Coded.{Coded-set, coded_bool, coded_ℕ, le_prop}
use Rattle.std.specs.List.{AllByRecursion as Each, AllByRecursion-prop}
use Rattle.split_model.specs.declared.layout.Crossing.{Crossing}
use Rattle.split_model.specs.Crossing.{is_value}
use Rattle.switch_ir.specs.declared.code.Table.{Table}
use Rattle.switch_ir.specs.Passes.{Step, PassCode, Code}
use Rattle.switch_ir.specs.Spans.{results_in, written_in, Written}
use Rattle.switch_machine.specs.declared.numbering.ValueRange.{ValueRange}
use Rattle.switch_machine.specs.Numbers.{no_values, range_at}
use Rattle.lemmas.proofs.Tests.{never_prop}

-- an instruction, the number of its first value, and how many values are known of it
pub record Entry : Type 0 where
  pub instruction : ℕ
  pub first : ℕ
  pub count : ℕ

abbrev pub step_entry : List Table → Step → Entry
step_entry tables s = record { instruction = s.instruction; first = s.first; count = results_in tables s.work }

-- a value that is handed in, and those before it of its instruction
abbrev pub crossing_entry : Crossing → Entry
crossing_entry c = record {
  instruction = c.value.instruction;
  first = c.number - c.value.result;
  count = suc c.value.result;
}

-- so many values from the first on, as far as they have numbers of 32 bits
abbrev pub from_first : ℕ → ℕ → ValueRange
from_first first count = record { first = first; count = min count (2 ^ 32 - 1 - first) }

-- the values of an instruction of which an entry tells
abbrev pub with_entry : Entry → ValueRange → ValueRange
with_entry e known = from_first e.first (max known.count e.count)

-- where the values of an instruction stand by all entries
abbrev pub entered : List Entry → (ℕ → ValueRange) → ℕ → ValueRange
entered [] before i = before i
entered (e ∷ es) before i = entered es (λ j. if j == e.instruction then with_entry e (before j) else before j) i

-- those of a pass to which the values of a layout are handed
abbrev pub entries : List Table → List Crossing → PassCode → List Entry
entries tables handed pass =
    map crossing_entry handed ++ (map (step_entry tables) pass.given ++ map (step_entry tables) pass.steps)

-- these are the ranges of the entries
pub record AreRanges (es : List Entry) (ranges : List ValueRange) : Type 0 where
  pub first : (i : ℕ) → (range_at ranges i).first ≡ (entered es (λ _. no_values) i).first
  pub count : (i : ℕ) → (range_at ranges i).count ≡ (entered es (λ _. no_values) i).count

-- The values of an instruction stand one behind the other, and behind those of all lower instructions.
pub record AreInOrder (had : List Written) : Type 0 where
  pub within : (w : Written) → Contains had w → w.value.result ≤ w.number
  pub same : (a b : Written) → Contains had a → Contains had b → a.value.instruction ≡ b.value.instruction
      → a.number + b.value.result ≡ b.number + a.value.result
  pub lower : (a b : Written) → Contains had a → Contains had b → a.value.instruction < b.value.instruction
      → a.number + b.value.result < b.number

-- what is handed in is of no instruction that the pass is given or computes
abbrev pub AreOthers : List Crossing → List Step → Type 0
AreOthers handed steps = Each (λ (c : Crossing). Each (λ (s : Step). c.value.instruction ≢ s.instruction) steps) handed

-- what goes up has the number of no other value
abbrev pub AreAlike : List Crossing → List Written → Type 0
AreAlike up had = Each (λ (c : Crossing). Each (λ (w : Written). w.number ≡ c.number → is_value w.value c.value ≡ true) had) up

-- The values of both passes of code stand in order. No value is known by the number of another.
pub record AreOrdered (code : Code) : Type 0 where
  pub pre : AreInOrder (written_in code.tables [] code.pre)
  pub post : AreInOrder (written_in code.tables code.down code.post)
  pub others : AreOthers code.down (code.post.given ++ code.post.steps)
  pub up : AreAlike code.up (written_in code.tables [] code.pre)

-- these have at most one proof
pub ranges_prop : (es : List Entry) (ranges : List ValueRange) → IsProp (AreRanges es ranges)
ranges_prop es ranges a b = λ i. record {
  first = λ k. Coded-set coded_ℕ _ _ (a.first k) (b.first k) i;
  count = λ k. Coded-set coded_ℕ _ _ (a.count k) (b.count k) i;
}

pub order_prop : (had : List Written) → IsProp (AreInOrder had)
order_prop had a b = λ i. record {
  within = λ w there. le_prop (a.within w there) (b.within w there) i;
  same = λ x y here there is. Coded-set coded_ℕ _ _ (a.same x y here there is) (b.same x y here there is) i;
  lower = λ x y here there lt. le_prop (a.lower x y here there lt) (b.lower x y here there lt) i;
}

pub ordered_prop : (code : Code) → IsProp (AreOrdered code)
ordered_prop code a b = λ i. record {
  pre = order_prop (written_in code.tables [] code.pre) a.pre b.pre i;
  post = order_prop (written_in code.tables code.down code.post) a.post b.post i;
  others = AllByRecursion-prop (λ c. Each (λ (s : Step). c.value.instruction ≢ s.instruction) (code.post.given ++ code.post.steps))
      (λ c. AllByRecursion-prop (λ (s : Step). c.value.instruction ≢ s.instruction) (λ s f g. λ j same. never_prop (f same) (g same) j) (code.post.given ++ code.post.steps))
      code.down a.others b.others i;
  up = AllByRecursion-prop (λ c. Each (λ (w : Written). w.number ≡ c.number → is_value w.value c.value ≡ true) (written_in code.tables [] code.pre))
      (λ c. AllByRecursion-prop (λ (w : Written). w.number ≡ c.number → is_value w.value c.value ≡ true)
      (λ w f g. λ j same. Coded-set coded_bool _ _ (f same) (g same) j) (written_in code.tables [] code.pre))
      code.up a.up b.up i;
}
