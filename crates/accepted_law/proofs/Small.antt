-- A module that was read has no more words than the limit on bytes allows, and so few of all that is counted in it.
use Rattle.std.proofs.Common.{◌≡◌, ◌<◌, ◌≤◌, ◌+◌, ◌==◌, ◌^◌, ℕ, zero, suc, Bool, true, false, List, [], ◌∷◌, ◌++◌, length, drop, min, filter, find, Option, Some, None, inl, inr, refl, sym, subst, if◌then◌else◌, length-take, length-drop, length-append, arith}
use Rattle.std.specs.Prelude.{◌/◌, ◌-◌, flat_map, nat_lt, Contains, slice_index_or}
use Rattle.std.specs.List.{All, enumerate_from}
use Rattle.std.proofs.lemmas.Bool.Decides.{nat_tests}
use Rattle.std.proofs.lemmas.List.{length-map}
use Rattle.std.proofs.lemmas.List.Elements.{All-nil, All-cons}
use Rattle.std.proofs.lemmas.List.FromFn.{length-enumerate_from}
use Rattle.byteorder.specs.Endian.{little_number, big_number}
use Rattle.spv_words.specs.Words.{magic, words_by, words, inst_at, insts_from, insts, is_at_fault, first_fault, slice}
use Rattle.spv_words.specs.declared.words.Inst1.{Inst1}
use Rattle.spv_module.specs.State.{ModuleState}
use Rattle.spv_module.specs.Inst.{has_type, has_result, known, inst_of}
use Rattle.spv_module.specs.Kinds.{kind_of}
use Rattle.spv_module.specs.Form.{after}
use Rattle.spv_module.specs.Lists.{is_global, globals_from, with_inst, block_insts, block, with_block, blocks, function, with_function, functions_from, functions}
use Rattle.spv_module.specs.declared.kind.Kind.{Kind}
use Rattle.spv_module.specs.declared.kind.Kind.TheVariants.{Debug, Function as Opening, End, Label}
use Rattle.spv_module.specs.declared.kind.Place.{Place}
use Rattle.spv_module.specs.declared.kind.Place.TheVariants.{Outside}
use Rattle.spv_module.specs.declared.inst.Inst.{Inst}
use Rattle.spv_module.specs.declared.inst.Block.{Block}
use Rattle.spv_module.specs.declared.inst.Function.{Function}
use Rattle.spv_ops.specs.Shape.{count_of}
use Rattle.spv_index.specs.Locals.{insts_of}
use Rattle.use_chains.specs.Slots.{is_slot_in, mention, slots_of_inst, slots_of_block, slots}
use Rattle.use_chains.specs.Small.{IsSmall}
use Rattle.module_check.specs.ReadFrom.{IsReadFrom}
use Rattle.list_law.proofs.Tests.{or_left, or_right}
use Rattle.list_law.proofs.Numbers.{zero_first, le_on}
use Rattle.plan_law.specs.InOrder.{IsAmong}
use Rattle.plan_law.proofs.Listed.{flat}
use Rattle.typed_law.proofs.Conforming.{uncut_words}

-- numbers
le_zero : (n : ℕ) → 0 ≤ n
le_zero n = omega arith

le_suc : (m n : ℕ) → m ≤ n → suc m ≤ suc n
le_suc m n le = omega (arith, le)

le_more : (m n : ℕ) → m ≤ n → m ≤ suc n
le_more m n le = omega (arith, le)

le_right : (a b c : ℕ) → a ≤ c → a ≤ b + c
le_right a b c le = omega (arith, le)

le_left : (a b : ℕ) → a ≤ a + b
le_left a b = omega arith

le_both : (a b c d : ℕ) → a ≤ b → c ≤ d → a + c ≤ b + d
le_both a b c d first second = omega (arith, first, second)

le_behind : (a b c : ℕ) → a + b ≤ c → b ≤ c
le_behind a b c le = omega (arith, le)

suc_behind : (a b : ℕ) → suc a ≤ b → a ≤ b
suc_behind a b le = omega (arith, le)

is_word : (n m : ℕ) → n ≤ m → m ≤ 4194304 → n < 2 ^ 32
is_word n m few most = omega (arith, few, most)

-- words
words_fewer : (number : ℕ → List ℕ → ℕ) (bs : List ℕ) → length (words_by number bs) ≤ length bs
words_fewer number [] = le_zero 0
words_fewer number (a ∷ []) = le_zero 1
words_fewer number (a ∷ b ∷ []) = le_zero 2
words_fewer number (a ∷ b ∷ c ∷ []) = le_zero 3
words_fewer number (a ∷ b ∷ c ∷ d ∷ rest) = four (length (words_by number rest)) (length rest) (words_fewer number rest)
  where
    four : (m n : ℕ) → m ≤ n → suc m ≤ suc (suc (suc (suc n)))
    four m n le = omega (arith, le)

words_few : (bytes : List ℕ) → length (words bytes) ≤ length bytes
words_few bytes = by_order (little_number 4 bytes == magic)
  where
    by_order : (b : Bool) → length (if b then words_by little_number bytes else words_by big_number bytes) ≤ length bytes
    by_order true = words_fewer little_number bytes
    by_order false = words_fewer big_number bytes

-- instructions are no more than words
insts_fewer : (at skip : ℕ) (ws : List ℕ) → length (insts_from at skip ws) ≤ length ws
insts_fewer at skip [] = le_zero 0
insts_fewer at zero (w ∷ ws) = le_suc (length (insts_from (suc at) (w / 65536 - 1) ws)) (length ws) (insts_fewer (suc at) (w / 65536 - 1) ws)
insts_fewer at (suc skip) (w ∷ ws) = le_more (length (insts_from (suc at) skip ws)) (length ws) (insts_fewer (suc at) skip ws)

-- how many words they have together
abbrev total : List Inst1 → ℕ
total [] = 0
total (i ∷ is) = i.len + total is

none_next : (test : Inst1 → Bool) (x : Inst1) (o : Option Inst1) (b : Bool) → test x ≡ b → (if b then Some x else o) ≡ None → (test x ≡ false) × (o ≡ None)
none_next test x o true e none = cc
none_next test x o false e none = (e, none)

fits : (end : ℕ) (i : Inst1) → is_at_fault end i ≡ false → (1 ≤ i.len) × (i.start + i.len ≤ end)
fits end i e =
    let some : (i.len == 0) ≡ false = or_left (i.len == 0) (nat_lt end (i.start + i.len)) e in
    let low : nat_lt end (i.start + i.len) ≡ false = or_right (i.len == 0) (nat_lt end (i.start + i.len)) e in
    (grind (arith, nat_tests, some), grind (arith, nat_tests, low))

one_more : (len at end n t : ℕ) → 1 ≤ len → at + len ≤ end → at + suc n ≡ end → t + (len - 1) ≤ n → len + t + 0 ≤ suc n
one_more len at end n t some low ends later = omega (arith, some, later)

room : (len at end n : ℕ) → 1 ≤ len → at + len ≤ end → at + suc n ≡ end → len - 1 ≤ n
room len at end n some low ends = omega (arith, some, low, ends)

end_next : (at n end : ℕ) → at + suc n ≡ end → suc at + n ≡ end
end_next at n end ends = omega (arith, ends)

total_fits : (end at skip : ℕ) (ws : List ℕ) → at + length ws ≡ end → skip ≤ length ws → find (is_at_fault end) (insts_from at skip ws) ≡ None → total (insts_from at skip ws) + skip ≤ length ws
total_fits end at zero [] ends low none = le_zero 0
total_fits end at (suc skip) [] ends low none = never skip low
  where
    never : (s : ℕ) → suc s ≤ 0 → 0 + suc s ≤ 0
    never s le = absurd (omega (arith, le))
total_fits end at zero (w ∷ ws) ends low none =
    let behind : List Inst1 = insts_from (suc at) (w / 65536 - 1) ws in
    let parts = none_next (is_at_fault end) (inst_at at w) (find (is_at_fault end) behind) (is_at_fault end (inst_at at w)) refl none in
    let there = fits end (inst_at at w) parts.0 in
    one_more (w / 65536) at end (length ws) (total behind) there.0 there.1 ends
    (total_fits end (suc at) (w / 65536 - 1) ws (end_next at (length ws) end ends) (room (w / 65536) at end (length ws) there.0 there.1 ends) parts.1)
total_fits end at (suc skip) (w ∷ ws) ends low none =
    later (total (insts_from (suc at) skip ws)) skip (length ws)
    (total_fits end (suc at) skip ws (end_next at (length ws) end ends) (earlier skip (length ws) low) none)
  where
    later : (t s n : ℕ) → t + s ≤ n → t + suc s ≤ suc n
    later t s n le = omega (arith, le)

    earlier : (s n : ℕ) → suc s ≤ suc n → s ≤ n
    earlier s n le = omega (arith, le)

total_few : (ws : List ℕ) → first_fault ws ≡ None → total (insts ws) ≤ length ws
total_few [] none = le_zero 0
total_few (a ∷ []) none = le_zero 1
total_few (a ∷ b ∷ []) none = le_zero 2
total_few (a ∷ b ∷ c ∷ []) none = le_zero 3
total_few (a ∷ b ∷ c ∷ d ∷ []) none = le_zero 4
total_few (a ∷ b ∷ c ∷ d ∷ e ∷ rest) none =
    behind_head (total (insts_from 5 0 rest)) (length rest)
    (total_fits (length (a ∷ b ∷ c ∷ d ∷ e ∷ rest)) 5 0 rest (head (length rest)) (le_zero (length rest)) none)
  where
    head : (n : ℕ) → 5 + n ≡ suc (suc (suc (suc (suc n))))
    head n = omega arith

    behind_head : (t n : ℕ) → t + 0 ≤ n → t ≤ suc (suc (suc (suc (suc n))))
    behind_head t n le = omega (arith, le)

-- how many operands instructions have together
abbrev pub args_in : List Inst → ℕ
args_in [] = 0
args_in (i ∷ is) = length i.args + args_in is

pub args_append : (xs ys : List Inst) → args_in (xs ++ ys) ≡ args_in xs + args_in ys
args_append [] ys = zero_first (args_in ys)
args_append (x ∷ xs) ys = behind_one (length x.args) (args_in (xs ++ ys)) (args_in xs) (args_in ys) (args_append xs ys)
  where
    behind_one : (a b c d : ℕ) → b ≡ c + d → a + b ≡ a + c + d
    behind_one a b c d e = omega (arith, e)

-- each has as many at most
contains_args : (is : List Inst) (i : Inst) → Contains is i → length i.args ≤ args_in is
contains_args [] i there = let less = there.1 in absurd (omega (arith, less))
contains_args (j ∷ is) i (zero, less, same) = subst (λ (x : Inst). length x.args ≤ length j.args + args_in is) same (le_left (length j.args) (args_in is))
contains_args (j ∷ is) i (suc k, less, same) = le_right (length i.args) (length j.args) (args_in is) (contains_args is i (k, (let low : k < length is = omega (arith, less) in low), same))

contains_block : (bs : List Block) (b : Block) → Contains bs b → args_in b.insts ≤ args_in (flat bs)
contains_block [] b there = let less = there.1 in absurd (omega (arith, less))
contains_block (c ∷ bs) b (zero, less, same) =
    subst (λ (x : Block). args_in x.insts ≤ args_in (c.insts ++ flat bs)) same (subst (λ n. args_in c.insts ≤ n) (sym (args_append c.insts (flat bs))) (le_left (args_in c.insts) (args_in (flat bs))))
contains_block (c ∷ bs) b (suc k, less, same) =
    subst (λ n. args_in b.insts ≤ n) (sym (args_append c.insts (flat bs)))
    (le_right (args_in b.insts) (args_in c.insts) (args_in (flat bs)) (contains_block bs b (k, (let low : k < length bs = omega (arith, less) in low), same)))

args_few : (ws : List ℕ) (x : Inst1) → length (inst_of ws x).args ≤ x.len
args_few ws x =
    fewer (length (slice ws x)) x.len (length (drop x.start ws)) (1 + count_of (has_type (known x.opcode)) + count_of (has_result (known x.opcode))) (length (inst_of ws x).args)
    (length-drop (1 + count_of (has_type (known x.opcode)) + count_of (has_result (known x.opcode))) (slice ws x)) (length-take x.len (drop x.start ws))
  where
    fewer : (s len n k a : ℕ) → a ≡ s - k → s ≡ min len n → a ≤ len
    fewer s len n k a behind whole = omega (arith, behind, whole)

sizes : (ws : List ℕ) (is : List Inst1) → (args_in (block_insts ws is ++ flat (blocks ws is)) ≤ total is) × (args_in (flat (blocks ws is)) ≤ total is)
sizes ws [] = (le_zero 0, le_zero 0)
sizes ws (x ∷ is) = by_kind (kind_of ws x) (sizes ws is)
  where
    by_kind : (k : Kind) → (args_in (block_insts ws is ++ flat (blocks ws is)) ≤ total is) × (args_in (flat (blocks ws is)) ≤ total is)
        → (args_in (with_inst k (inst_of ws x) (block_insts ws is) ++ flat (with_block k (block ws x is) (blocks ws is))) ≤ x.len + total is) × (args_in (flat (with_block k (block ws x is) (blocks ws is))) ≤ x.len + total is)
    by_kind Label rest = (le_right (args_in (block_insts ws is ++ flat (blocks ws is))) x.len (total is) rest.0, le_right (args_in (block_insts ws is ++ flat (blocks ws is))) x.len (total is) rest.0)
    by_kind End rest = (le_zero (x.len + total is), le_zero (x.len + total is))
    by_kind Debug rest = (le_right (args_in (block_insts ws is ++ flat (blocks ws is))) x.len (total is) rest.0, le_right (args_in (flat (blocks ws is))) x.len (total is) rest.1)
    by_kind k rest = (
      le_both (length (inst_of ws x).args) x.len (args_in (block_insts ws is ++ flat (blocks ws is))) (total is) (args_few ws x) rest.0,
      le_right (args_in (flat (blocks ws is))) x.len (total is) rest.1,
    )

-- blocks, and the instructions of a block, are no more than instructions
blocks_fewer : (ws : List ℕ) (is : List Inst1) → length (blocks ws is) ≤ length is
blocks_fewer ws [] = le_zero 0
blocks_fewer ws (x ∷ is) = by_kind (kind_of ws x) (blocks_fewer ws is)
  where
    by_kind : (k : Kind) → length (blocks ws is) ≤ length is → length (with_block k (block ws x is) (blocks ws is)) ≤ suc (length is)
    by_kind Label rest = le_suc (length (blocks ws is)) (length is) rest
    by_kind End rest = le_zero (suc (length is))
    by_kind k rest = le_more (length (blocks ws is)) (length is) rest

insts_in_fewer : (ws : List ℕ) (is : List Inst1) → length (block_insts ws is) ≤ length is
insts_in_fewer ws [] = le_zero 0
insts_in_fewer ws (x ∷ is) = by_kind (kind_of ws x) (insts_in_fewer ws is)
  where
    by_kind : (k : Kind) → length (block_insts ws is) ≤ length is → length (with_inst k (inst_of ws x) (block_insts ws is)) ≤ suc (length is)
    by_kind Label rest = le_zero (suc (length is))
    by_kind End rest = le_zero (suc (length is))
    by_kind Debug rest = le_more (length (block_insts ws is)) (length is) rest
    by_kind k rest = le_suc (length (block_insts ws is)) (length is) rest

abbrev AreShort : ℕ → List Block → Type 0
AreShort n [] = Unit {0}
AreShort n (b ∷ bs) = (length b.insts ≤ n) × AreShort n bs

blocks_short : (ws : List ℕ) (n : ℕ) (is : List Inst1) → length is ≤ n → AreShort n (blocks ws is)
blocks_short ws n [] few = tt
blocks_short ws n (x ∷ is) few = by_kind (kind_of ws x) (blocks_short ws n is (suc_behind (length is) n few))
  where
    by_kind : (k : Kind) → AreShort n (blocks ws is) → AreShort n (with_block k (block ws x is) (blocks ws is))
    by_kind Label rest = (le_on (length (block_insts ws is)) (suc (length is)) n (le_more (length (block_insts ws is)) (length is) (insts_in_fewer ws is)) few, rest)
    by_kind End rest = tt
    by_kind k rest = rest

short_one : (n : ℕ) (bs : List Block) (b : Block) → AreShort n bs → Contains bs b → length b.insts ≤ n
short_one n [] b all there = let less = there.1 in absurd (omega (arith, less))
short_one n (c ∷ bs) b all (zero, less, same) = subst (λ (x : Block). length x.insts ≤ n) same all.0
short_one n (c ∷ bs) b all (suc k, less, same) = short_one n bs b all.1 (k, (let low : k < length bs = omega (arith, less) in low), same)

-- functions
record IsCounted (n : ℕ) (f : Function) : Type 0 where
  blocks : length f.blocks ≤ n
  short : AreShort n f.blocks
  args : args_in (insts_of f) ≤ n

abbrev AreCounted : ℕ → List Function → Type 0
AreCounted n [] = Unit {0}
AreCounted n (f ∷ fs) = IsCounted n f × AreCounted n fs

functions_counted : (ws : List ℕ) (n : ℕ) (is : List Inst1) → total is ≤ n → length is ≤ n → AreCounted n (functions_from ws is)
functions_counted ws n [] few short = tt
functions_counted ws n (x ∷ is) few short = by_kind (kind_of ws x) (functions_counted ws n is few_behind short_behind)
  where
    few_behind : total is ≤ n
    few_behind = le_behind x.len (total is) n few

    short_behind : length is ≤ n
    short_behind = suc_behind (length is) n short

    by_kind : (k : Kind) → AreCounted n (functions_from ws is) → AreCounted n (with_function k (function ws x is) (functions_from ws is))
    by_kind Opening rest = (
      record {
        blocks = le_on (length (blocks ws is)) (length is) n (blocks_fewer ws is) short_behind;
        short = blocks_short ws n is short_behind;
        args = le_on (args_in (flat (blocks ws is))) (total is) n (sizes ws is).1 few_behind;
      },
      rest,
    )
    by_kind k rest = rest

-- operands that mention values are operands
pub filtered : {A : Type 0} (test : A → Bool) (xs : List A) → length (filter test xs) ≤ length xs
filtered test [] = le_zero 0
filtered test (x ∷ xs) = by_test (test x) (filtered test xs)
  where
    by_test : (b : Bool) → length (filter test xs) ≤ length xs → length (if b then x ∷ filter test xs else filter test xs) ≤ suc (length xs)
    by_test true rest = le_suc (length (filter test xs)) (length xs) rest
    by_test false rest = le_more (length (filter test xs)) (length xs) rest

joined : {A : Type 0} (xs ys : List A) (m n : ℕ) → length xs ≤ m → length ys ≤ n → length (xs ++ ys) ≤ m + n
joined xs ys m n first second = subst (λ k. k ≤ m + n) (sym (length-append xs ys)) (le_both (length xs) m (length ys) n first second)

module _ (f : Function) (reached : List Bool) where
  inst_slots : (here : Bool) (b n : ℕ) (i : Inst) → length (slots_of_inst f reached here b (n, i)) ≤ length i.args
  inst_slots here b n i =
      subst (λ k. k ≤ length i.args) (sym (length-map (filter (λ (operand : ℕ × ℕ). is_slot_in f reached here i operand.0) (enumerate_from 0 i.args)) (mention b n i)))
      (subst (λ k. length (filter (λ (operand : ℕ × ℕ). is_slot_in f reached here i operand.0) (enumerate_from 0 i.args)) ≤ k) (length-enumerate_from 0 i.args) (filtered (λ (operand : ℕ × ℕ). is_slot_in f reached here i operand.0) (enumerate_from 0 i.args)))

  insts_slots : (here : Bool) (b n : ℕ) (is : List Inst) → length (flat_map (slots_of_inst f reached here b) (enumerate_from n is)) ≤ args_in is
  insts_slots here b n [] = le_zero 0
  insts_slots here b n (i ∷ is) = joined (slots_of_inst f reached here b (n, i)) (flat_map (slots_of_inst f reached here b) (enumerate_from (n + 1) is)) (length i.args) (args_in is) (inst_slots here b n i) (insts_slots here b (n + 1) is)

  block_slots : (n : ℕ) (b : Block) → length (slots_of_block f reached (n, b)) ≤ args_in b.insts
  block_slots n b = insts_slots (slice_index_or reached n false) n 0 b.insts

  blocks_slots : (n : ℕ) (bs : List Block) → length (flat_map (slots_of_block f reached) (enumerate_from n bs)) ≤ args_in (flat bs)
  blocks_slots n [] = le_zero 0
  blocks_slots n (b ∷ bs) =
      subst (λ k. length (slots_of_block f reached (n, b) ++ flat_map (slots_of_block f reached) (enumerate_from (n + 1) bs)) ≤ k) (sym (args_append b.insts (flat bs)))
      (joined (slots_of_block f reached (n, b)) (flat_map (slots_of_block f reached) (enumerate_from (n + 1) bs)) (args_in b.insts) (args_in (flat bs)) (block_slots n b) (blocks_slots (n + 1) bs))

among_args : (i : Inst) (is : List Inst) → IsAmong i is → length i.args ≤ args_in is
among_args i [] there = absurd there
among_args i (j ∷ is) (inl same) = subst (λ (x : Inst). length x.args ≤ length j.args + args_in is) same (le_left (length j.args) (args_in is))
among_args i (j ∷ is) (inr there) = le_right (length i.args) (length j.args) (args_in is) (among_args i is there)

all_among : (is : List Inst) → ((i : Inst) → IsAmong i is → length i.args < 2 ^ 32) → All (λ (i : Inst). length i.args < 2 ^ 32) is
all_among [] each = All-nil (λ (i : Inst). length i.args < 2 ^ 32)
all_among (i ∷ is) each = All-cons (λ (j : Inst). length j.args < 2 ^ 32) i is (each i (inl refl)) (all_among is (λ j there. each j (inr there)))

globals_args : (ws : List ℕ) (p : Place) (is : List Inst1) → args_in (globals_from ws p is) ≤ total is
globals_args ws p [] = le_zero 0
globals_args ws p (x ∷ is) = by_test (is_global p (kind_of ws x)) (globals_args ws (after p (kind_of ws x)) is)
  where
    by_test : (b : Bool) → args_in (globals_from ws (after p (kind_of ws x)) is) ≤ total is → args_in (if b then inst_of ws x ∷ globals_from ws (after p (kind_of ws x)) is else globals_from ws (after p (kind_of ws x)) is) ≤ x.len + total is
    by_test true rest = le_both (length (inst_of ws x).args) x.len (args_in (globals_from ws (after p (kind_of ws x)) is)) (total is) (args_few ws x) rest
    by_test false rest = le_right (args_in (globals_from ws (after p (kind_of ws x)) is)) x.len (total is) rest

globals_fewer : (ws : List ℕ) (p : Place) (is : List Inst1) → length (globals_from ws p is) ≤ length is
globals_fewer ws p [] = le_zero 0
globals_fewer ws p (x ∷ is) = by_test (is_global p (kind_of ws x)) (globals_fewer ws (after p (kind_of ws x)) is)
  where
    by_test : (b : Bool) → length (globals_from ws (after p (kind_of ws x)) is) ≤ length is → length (if b then inst_of ws x ∷ globals_from ws (after p (kind_of ws x)) is else globals_from ws (after p (kind_of ws x)) is) ≤ length (x ∷ is)
    by_test true rest = le_suc (length (globals_from ws (after p (kind_of ws x)) is)) (length is) rest
    by_test false rest = le_more (length (globals_from ws (after p (kind_of ws x)) is)) (length is) rest

module _ (bytes : List ℕ) (m : ModuleState) (read : IsReadFrom bytes m) where
  abbrev ws : List ℕ
  ws = words bytes

  all_few : total (insts ws) ≤ length bytes
  all_few = le_on (total (insts ws)) (length ws) (length bytes) (total_few ws (uncut_words bytes read.fine)) (words_few bytes)

  all_short : length (insts ws) ≤ length bytes
  all_short = le_on (length (insts ws)) (length (drop 5 ws)) (length bytes) (insts_fewer 5 0 (drop 5 ws)) (le_on (length (drop 5 ws)) (length ws) (length bytes) (dropped (length (drop 5 ws)) (length ws) (length-drop 5 ws)) (words_few bytes))
    where
      dropped : (a b : ℕ) → a ≡ b - 5 → a ≤ b
      dropped a b e = omega (arith, e)

  small : (f : Function) → IsCounted (length bytes) f → IsSmall f
  small f counted = record {
    blocks = is_word (length f.blocks) (length bytes) counted.blocks read.short;
    each = λ b b_in. record {
      insts = is_word (length b.insts) (length bytes) (short_one (length bytes) f.blocks b counted.short b_in) read.short;
      args = λ i i_in.
          is_word (length i.args) (length bytes)
          (le_on (length i.args) (args_in b.insts) (length bytes) (contains_args b.insts i i_in) (le_on (args_in b.insts) (args_in (flat f.blocks)) (length bytes) (contains_block f.blocks b b_in) counted.args))
          read.short;
    };
    mentions = λ reached. is_word (length (slots f reached)) (length bytes) (le_on (length (slots f reached)) (args_in (insts_of f)) (length bytes) (blocks_slots f reached 0 f.blocks) counted.args) read.short;
  }

  all_small : (fs : List Function) → AreCounted (length bytes) fs → All IsSmall fs
  all_small [] counted = All-nil IsSmall
  all_small (f ∷ fs) counted = All-cons IsSmall f fs (small f counted.0) (all_small fs counted.1)

  -- so it is with each of its functions, and with the operands of its other instructions
  pub read_small : All IsSmall m.functions
  read_small = subst (λ (n : ModuleState). All IsSmall n.functions) (sym read.made) (all_small (functions ws) (functions_counted ws (length bytes) (insts ws) all_few all_short))

  -- the operands of a function's instructions together
  all_args : (fs : List Function) → AreCounted (length bytes) fs → All (λ (f : Function). args_in (insts_of f) < 2 ^ 32) fs
  all_args [] counted = All-nil (λ (f : Function). args_in (insts_of f) < 2 ^ 32)
  all_args (f ∷ fs) counted = All-cons (λ (g : Function). args_in (insts_of g) < 2 ^ 32) f fs (is_word (args_in (insts_of f)) (length bytes) counted.0.args read.short) (all_args fs counted.1)

  pub read_operands : All (λ (f : Function). args_in (insts_of f) < 2 ^ 32) m.functions
  read_operands = subst (λ (n : ModuleState). All (λ (f : Function). args_in (insts_of f) < 2 ^ 32) n.functions) (sym read.made) (all_args (functions ws) (functions_counted ws (length bytes) (insts ws) all_few all_short))

  pub read_args : (g : Inst) → IsAmong g m.globals → length g.args < 2 ^ 32
  read_args =
      subst (λ (n : ModuleState). (g : Inst) → IsAmong g n.globals → length g.args < 2 ^ 32) (sym read.made)
      (λ g g_in. is_word (length g.args) (length bytes) (le_on (length g.args) (args_in (globals_from ws Outside (insts ws))) (length bytes) (among_args g (globals_from ws Outside (insts ws)) g_in) (le_on (args_in (globals_from ws Outside (insts ws))) (total (insts ws)) (length bytes) (globals_args ws Outside (insts ws)) all_few)) read.short)

  pub read_few : All (λ (g : Inst). length g.args < 2 ^ 32) m.globals
  read_few = all_among m.globals read_args

  pub read_globals : length m.globals < 2 ^ 32
  read_globals =
      subst (λ (n : ModuleState). length n.globals < 2 ^ 32) (sym read.made)
      (is_word (length (globals_from ws Outside (insts ws))) (length bytes) (le_on (length (globals_from ws Outside (insts ws))) (length (insts ws)) (length bytes) (globals_fewer ws Outside (insts ws)) all_short) read.short)
