-- Where no rule on words, on the form and on types is broken, each function that is called is one of the module's; and so is that of the entry point, where the rule on it is not broken.
use Rattle.std.proofs.Common.{◌≡◌, ◌<◌, ◌≤◌, ◌+◌, ◌-◌, ◌==◌, ◌&&◌, ◌||◌, ◌++◌, ℕ, suc, Bool, true, false, not, cond, List, [], ◌∷◌, Option, None, Some, IsSomeAnd, is_some, length, drop, get_or, slice_index, nat_le, refl, ap, sym, ◌∙◌, inl, inr, arith}
use Rattle.std.specs.Option.{option_map_or, unwrap_or}
use Rattle.std.specs.List.{All, Contains, flat_map, list_any, enumerate_from, position_from}
use Rattle.std.proofs.lemmas.List.{length-drop, length-take-le}
use Rattle.std.proofs.lemmas.List.Concat.{flat_map-cons}
use Rattle.std.proofs.lemmas.List.Elements.{All-nil, All-cons, All-head, All-tail, All-append, All-contains, All-filter, All-weaker, All-from_get_or, filter_passes}
use Rattle.std.proofs.lemmas.Bool.Decides.{eqb_tells, nat_tests}
use Rattle.std.proofs.lemmas.Bool.{false_from_ne_true, or_parts}
use Rattle.list_law.proofs.Tests.{but_not}
use Rattle.spv_words.specs.Words.{words, insts, no_inst, slice, first_fault}
use Rattle.spv_words.specs.Breaks.{AreWords}
use Rattle.spv_words.specs.declared.words.Inst1.{Inst1}
use Rattle.spv_words.specs.declared.rule.Rule.TheVariants.{T1, P2, P8}
use Rattle.spv_words.specs.declared.rule.Rule.{Rule}
use Rattle.spv_words.proofs.Cuts.{whole_at}
use Rattle.spv_ops.specs.Operands.{is_id}
use Rattle.spv_ops.specs.OpGroups.{group_of, takes_of}
use Rattle.spv_ops.specs.Opcode.{is, number, op_of}
use Rattle.spv_ops.specs.Shape.{shape, count_of}
use Rattle.spv_ops.specs.declared.Op.{Op}
use Rattle.spv_ops.specs.declared.Op.TheVariants as code
use Rattle.spv_ops.specs.declared.class.OpShape.{OpShape}
use Rattle.spv_ops.specs.declared.class.OpClass.TheVariants.{Call}
use Rattle.spv_module.specs.Counts.{is_misfit, is_misfit_of, is_within}
use Rattle.spv_module.specs.Inst.{inst_of, known, has_type, has_result}
use Rattle.spv_module.specs.Kinds.{kind_of}
use Rattle.spv_module.specs.Lists.{module_of, functions_from, function, with_function, blocks, block, with_block, block_insts, with_inst}
use Rattle.spv_module.specs.State.{ModuleState}
use Rattle.spv_module.specs.declared.kind.Kind.{Kind}
use Rattle.spv_module.specs.declared.kind.Kind.TheVariants as kind
use Rattle.spv_module.specs.declared.inst.Inst.{Inst}
use Rattle.spv_module.specs.declared.inst.Block.{Block}
use Rattle.spv_module.specs.declared.inst.Function.{Function}
use Rattle.spv_module.specs.Broken.{IsUnbroken}
use Rattle.spv_types.specs.Types.{earlier}
use Rattle.spv_index.specs.Locals.{insts_of}
use Rattle.spv_decor.specs.Rows.{word}
use Rattle.profile_rules.specs.declared.needs.Need.{Need}
use Rattle.profile_rules.specs.declared.needs.Need.TheVariants.{Callee}
use Rattle.profile_rules.specs.Operands.{need, suits, is_there_in, is_in_function, lacks_operand, breaks_t1_in}
use Rattle.profile_rules.specs.TypeRules.{broken_if, broken_by_local, broken_by_block, broken_by_function, broken_by_global, broken}
use Rattle.profile_rules.specs.Entry.{chosen, function_of, is_called, is_no_kernel}
use Rattle.profile_rules.specs.DataRules.{Broken as BrokenData}
use Rattle.profile_rules.specs.Calls.{is_call, calls_in, callee, ids_of, AreCalleesFunctions}

-- a call has operands
abbrev IsFull : Inst → Type 0
IsFull j = j.op ≡ code.FunctionCall → 0 < length j.args

abbrev AreFull : List ℕ → List Inst1 → Type 0
AreFull ws is = All (λ (i : Inst1). IsFull (inst_of ws i)) is

none_found : (found : Option Inst1) → ((at : ℕ) → IsSomeAnd found (λ i. (i.len ≡ 0) × (at ≡ i.start)) → ⊥) → ((at : ℕ) → IsSomeAnd found (λ i. (0 < i.len) × (at ≡ i.start)) → ⊥) → found ≡ None
none_found None empty short = refl
none_found (Some i) empty short =
    elim (eqb_tells i.len 0) [
      | inl w ↦ absurd (empty i.start (w.1, refl))
      | inr w ↦ absurd (short i.start (omega (arith, w.1), refl))
    ]

call_shape : shape code.FunctionCall ≡ record { has_type = true; has_result = true; least = 4; most = 65535; class = Call }
unfolding shape
call_shape = refl

call_row : (has_type code.FunctionCall ≡ true) × (has_result code.FunctionCall ≡ true)
unfolding shape
call_row = (refl, refl)

call_in : (o : Option Op) → unwrap_or o code.Nop ≡ code.FunctionCall → o ≡ Some code.FunctionCall
call_in None h = cc
call_in (Some op) h = ap Some h

call_known_by : (n : ℕ) → known n ≡ code.FunctionCall → op_of n ≡ Some code.FunctionCall
unfolding known
call_known_by n h = call_in (op_of n) h

pub not_and : (a b c : Bool) → not ((a && b) && c) ≡ false → a ≡ true
not_and true b c h = refl
not_and false b c h = cc

least_of_call : (ws : List ℕ) (i : Inst1) → known i.opcode ≡ code.FunctionCall → is_misfit ws i ≡ false → 4 ≤ i.len
least_of_call ws i op fine =
    let is : is_misfit ws i ≡ is_misfit_of ws i code.FunctionCall = ap (λ (o : Option Op). option_map_or (is_misfit_of ws i) o false) (call_known_by i.opcode op) in
    let e : not ((nat_le 4 i.len && nat_le i.len 65535) && true) ≡ false = sym (ap (λ (s : OpShape). not (is_within 0 s i.len && true)) call_shape) ∙ sym is ∙ fine in
    let enough : nat_le 4 i.len ≡ true = not_and (nat_le 4 i.len) (nat_le i.len 65535) true e in
    grind (arith, nat_tests, enough)

length_slice : (ws : List ℕ) (i : Inst1) → i.start + i.len ≤ length ws → length (slice ws i) ≡ i.len
length_slice ws i whole =
    let behind : length (drop i.start ws) ≡ length ws - i.start = length-drop i.start ws in
    length-take-le i.len (drop i.start ws) (omega (arith, behind, whole))

full_inst : (ws : List ℕ) (i : Inst1) → i.start + i.len ≤ length ws → is_misfit ws i ≡ false → IsFull (inst_of ws i)
full_inst ws i whole fine op =
    let enough : 4 ≤ i.len = least_of_call ws i op fine in
    let typed : has_type (known i.opcode) ≡ true = ap has_type op ∙ call_row.0 in
    let resulting : has_result (known i.opcode) ≡ true = ap has_result op ∙ call_row.1 in
    let front : 1 + count_of (has_type (known i.opcode)) + count_of (has_result (known i.opcode)) ≡ 3 = ap (λ b. 1 + count_of b + count_of (has_result (known i.opcode))) typed ∙ ap (λ b. 1 + 1 + count_of b) resulting in
    let long : length (drop (1 + count_of (has_type (known i.opcode)) + count_of (has_result (known i.opcode))) (slice ws i)) ≡ length (slice ws i) - 3 = ap (λ n. length (drop n (slice ws i))) front ∙ length-drop 3 (slice ws i) in
    let own : length (slice ws i) ≡ i.len = length_slice ws i whole in
    omega (arith, long, own, enough)

-- the calls in blocks
block_step : (j : Inst) (rest : List Inst) (k : Kind) → IsFull j → All IsFull rest → All IsFull (with_inst k j rest)
block_step j rest kind.Label own later = All-nil IsFull
block_step j rest kind.End own later = All-nil IsFull
block_step j rest kind.Debug own later = later
block_step j rest _ own later = All-cons IsFull j rest own later

block_full : (ws : List ℕ) (is : List Inst1) → AreFull ws is → All IsFull (block_insts ws is)
block_full ws [] h = All-nil IsFull
block_full ws (i ∷ is) h =
    block_step (inst_of ws i) (block_insts ws is) (kind_of ws i) (All-head (λ (i : Inst1). IsFull (inst_of ws i)) i is h)
    (block_full ws is (All-tail (λ (i : Inst1). IsFull (inst_of ws i)) i is h))

abbrev IsFullBlock : Block → Type 0
IsFullBlock b = All IsFull b.insts

blocks_step : (b : Block) (rest : List Block) (k : Kind) → IsFullBlock b → All IsFullBlock rest → All IsFullBlock (with_block k b rest)
blocks_step b rest kind.Label own later = All-cons IsFullBlock b rest own later
blocks_step b rest kind.End own later = All-nil IsFullBlock
blocks_step b rest _ own later = later

blocks_full : (ws : List ℕ) (is : List Inst1) → AreFull ws is → All IsFullBlock (blocks ws is)
blocks_full ws [] h = All-nil IsFullBlock
blocks_full ws (i ∷ is) h =
    let later : AreFull ws is = All-tail (λ (i : Inst1). IsFull (inst_of ws i)) i is h in
    blocks_step (block ws i is) (blocks ws is) (kind_of ws i) (block_full ws is later) (blocks_full ws is later)

abbrev IsFullFunction : Function → Type 0
IsFullFunction f = All IsFullBlock f.blocks

functions_step : (f : Function) (rest : List Function) (k : Kind) → IsFullFunction f → All IsFullFunction rest → All IsFullFunction (with_function k f rest)
functions_step f rest kind.Function own later = All-cons IsFullFunction f rest own later
functions_step f rest _ own later = later

functions_full : (ws : List ℕ) (is : List Inst1) → AreFull ws is → All IsFullFunction (functions_from ws is)
functions_full ws [] h = All-nil IsFullFunction
functions_full ws (i ∷ is) h =
    let later : AreFull ws is = All-tail (λ (i : Inst1). IsFull (inst_of ws i)) i is h in
    functions_step (function ws i is) (functions_from ws is) (kind_of ws i) (blocks_full ws is later) (functions_full ws is later)

-- the instructions of words that break no rule on words and on numbers of words
all_full : (ws : List ℕ) → first_fault ws ≡ None → IsUnbroken ws P2 → AreFull ws (insts ws)
all_full ws whole fine = All-from_get_or (λ (i : Inst1). IsFull (inst_of ws i)) (insts ws) no_inst
    (λ k inside. full_inst ws (get_or (insts ws) k no_inst) (whole_at (length ws) (insts ws) k no_inst whole inside)
    (false_from_ne_true (is_misfit ws (get_or (insts ws) k no_inst)) (λ bad. fine (get_or (insts ws) k no_inst).start (k, inside, refl, bad))))

-- what breaks nothing has parts that break nothing
append_nil : {X : Type 0} (xs ys : List X) → xs ++ ys ≡ [] → (xs ≡ []) × (ys ≡ [])
append_nil [] ys h = (refl, h)
append_nil (x ∷ xs) ys h = cc

each_nil : {X Y : Type 0} (f : X → List Y) (xs : List X) → flat_map f xs ≡ [] → All (λ x. f x ≡ []) xs
each_nil f [] h = All-nil (λ x. f x ≡ [])
each_nil f (x ∷ xs) h =
    let both = append_nil (f x) (flat_map f xs) (sym (flat_map-cons f x xs) ∙ h) in
    All-cons (λ x. f x ≡ []) x xs both.0 (each_nil f xs both.1)

all_parts : {X Y : Type 0} (P : Y → Type 0) (f : X → List Y) (xs : List X) → All (λ x. All P (f x)) xs → All P (flat_map f xs)
all_parts P f [] h = All-nil P
all_parts P f (x ∷ xs) h = rw (flat_map-cons f x xs) (All-append P (f x) (flat_map f xs) (All-head (λ x. All P (f x)) x xs h) (all_parts P f xs (All-tail (λ x. All P (f x)) x xs h)))

unbroken_if : (b : Bool) (rule : Rule) (at : ℕ) → broken_if b rule at ≡ [] → b ≡ false
unbroken_if true rule at h = cc
unbroken_if false rule at h = refl

call_id : (args : List ℕ) → is_id code.FunctionCall args 0 ≡ true
unfolding is_id
call_id args = refl

call_need : need code.FunctionCall 0 ≡ Callee
unfolding need takes_of group_of
call_need = refl

-- the first operand of a call is there
operand_there : (there : Need → ℕ → Bool) (i : Inst) (args : List ℕ) → i.op ≡ code.FunctionCall → 0 < length args → list_any (lacks_operand there i) (enumerate_from 0 args) ≡ false → there Callee (slice_index args 0) ≡ true
operand_there there i [] op full fine = absurd (omega (arith, full))
operand_there there i (a ∷ others) op full fine =
    let first = (or_parts (lacks_operand there i (0, a)) (list_any (lacks_operand there i) (enumerate_from 1 others)) fine).0 in
    let id : is_id i.op i.args 0 ≡ true = ap (λ o. is_id o i.args 0) op ∙ call_id i.args in
    let needed : need i.op 0 ≡ Callee = ap (λ o. need o 0) op ∙ call_need in
    ap (λ n. there n a) (sym needed) ∙ but_not (is_id i.op i.args 0) (there (need i.op 0) a) id first

no_global : (o : Option Inst) → option_map_or (suits Callee) o false ≡ false
no_global None = refl
no_global (Some g) = refl

contains_later : (x y : ℕ) (xs : List ℕ) → Contains xs x → Contains (y ∷ xs) x
contains_later x y xs h = let inside : suc h.0 < suc (length xs) = omega (arith, h.1) in (suc h.0, inside, h.2)

contains_first : (x y : ℕ) (xs : List ℕ) → y ≡ x → Contains (y ∷ xs) x
contains_first x y xs is = let inside : 0 < suc (length xs) = omega arith in (0, inside, is)

-- what is found has its id among theirs
placed : (fs : List Function) (k id : ℕ) → is_some (position_from (λ (f : Function). f.id.0 == id) k fs) ≡ true → Contains (ids_of fs) id
placed [] k id h = cc
placed (f ∷ fs) k id h =
    elim (eqb_tells f.id.0 id) [
      | inl w ↦ contains_first id f.id.0 (ids_of fs) w.1
      | inr w ↦ contains_later id f.id.0 (ids_of fs) (placed fs (k + 1) id (rw w.0 at h))
    ]

is_function : (m : ModuleState) (f : Function) (n id : ℕ) → is_there_in m f n Callee id ≡ true → Contains (ids_of m.functions) id
is_function m f n id h =
    let local : is_in_function m f n Callee id ≡ true = sym (ap (λ b. b || is_in_function m f n Callee id) (no_global (earlier m.globals n id))) ∙ h in
    placed m.functions 0 id local

-- the instructions of a function break no rule on what they name
abbrev IsFine : ModuleState → Function → Inst → Type 0
IsFine m f i = breaks_t1_in m f i ≡ false

fine_block : (m : ModuleState) (f : Function) (b : Block) → broken_by_block m f b ≡ [] → All (IsFine m f) b.insts
fine_block m f b h =
    All-weaker (λ (i : Inst). broken_by_local m f b i ≡ []) (IsFine m f)
    (λ i e. unbroken_if (breaks_t1_in m f i) T1 i.at (append_nil (broken_if (breaks_t1_in m f i) T1 i.at) _ e).0) b.insts (each_nil (broken_by_local m f b) b.insts h)

fine_function : (m : ModuleState) (f : Function) → broken_by_function m f ≡ [] → All (IsFine m f) (insts_of f)
fine_function m f h =
    let more = append_nil _ (flat_map (broken_by_block m f) f.blocks) (append_nil _ _ h).1 in
    all_parts (IsFine m f) (λ (b : Block). b.insts) f.blocks
    (All-weaker (λ (b : Block). broken_by_block m f b ≡ []) (λ (b : Block). All (IsFine m f) b.insts) (fine_block m f) f.blocks (each_nil (broken_by_block m f) f.blocks more.1))

is_opcode : (o : Op) → is o code.FunctionCall ≡ true → o ≡ code.FunctionCall
unfolding number
is_opcode code.FunctionCall h = refl
is_opcode o h = cc

call_known : (m : ModuleState) (f : Function) (call : Inst) → IsFull call → IsFine m f call → call.op ≡ code.FunctionCall → Contains (ids_of m.functions) (callee call)
call_known m f call full fine op =
    is_function m f call.at (callee call)
    (operand_there (is_there_in m f call.at) call call.args op (full op) (or_parts _ (list_any (lacks_operand (is_there_in m f call.at) call) (enumerate_from 0 call.args)) fine).1)

-- each function that is called is one of the module's
pub callees_known : (bytes : List ℕ) → AreWords bytes → IsUnbroken (words bytes) P2 → broken (module_of (words bytes)) ≡ [] → AreCalleesFunctions (module_of (words bytes)).functions
callees_known bytes words_fine counts types f g calls =
    let ws = words bytes in
    let m = module_of ws in
    let h : Function = calls.1.0 in
    let whole = none_found (first_fault ws) words_fine.1.1.1.1.1.1.0 words_fine.1.1.1.1.1.1.1.0 in
    let full_blocks : IsFullFunction h = All-contains IsFullFunction m.functions h (functions_full ws (insts ws) (all_full ws whole counts)) calls.1.1 in
    let full : All IsFull (insts_of h) = all_parts IsFull (λ (b : Block). b.insts) h.blocks full_blocks in
    let each : All (λ (k : Function). broken_by_function m k ≡ []) m.functions = each_nil (broken_by_function m) m.functions (append_nil (flat_map (broken_by_global m) m.globals) (flat_map (broken_by_function m) m.functions) types).1 in
    let fine : All (IsFine m h) (insts_of h) = fine_function m h (All-contains (λ (k : Function). broken_by_function m k ≡ []) m.functions h each calls.1.1) in
    let in_calls = calls.1.3 in
    let op : calls.0.op ≡ code.FunctionCall = is_opcode calls.0.op (All-contains (λ (i : Inst). is_call i ≡ true) (calls_in h) calls.0 (filter_passes is_call (insts_of h)) in_calls) in
    let known : Contains (ids_of m.functions) (callee calls.0) =
    call_known m h calls.0 (All-contains IsFull (calls_in h) calls.0 (All-filter is_call IsFull (insts_of h) full) in_calls) (All-contains (IsFine m h) (calls_in h) calls.0 (All-filter is_call (IsFine m h) (insts_of h) fine) in_calls) op in
    rw calls.2 at known

-- a function that is found has its id among theirs
found_function : (m : ModuleState) (id : ℕ) (fs : List Function) → option_map_or (is_called m.globals) (function_of fs id) true ≡ false → Contains (ids_of fs) id
found_function m id [] h = cc
found_function m id (f ∷ fs) h =
    elim (eqb_tells f.id.0 id) [
      | inl w ↦ contains_first id f.id.0 (ids_of fs) w.1
      | inr w ↦ contains_later id f.id.0 (ids_of fs) (found_function m id fs (rw w.0 at h))
    ]

chosen_known : (m : ModuleState) (entry : Option Inst) (id : ℕ) → ((at : ℕ) → Contains (option_map_or (λ (i : Inst). cond (is_no_kernel m i) (i.at ∷ []) []) entry []) at → ⊥) → IsSomeAnd entry (λ (i : Inst). id ≡ word i 1) → Contains (ids_of m.functions) id
chosen_known m None id fine is = absurd is
chosen_known m (Some i) id fine is =
    let kernel : is_no_kernel m i ≡ false = false_from_ne_true (is_no_kernel m i) (λ bad. fine i.at (rw bad (contains_first i.at i.at [] refl))) in
    let there : option_map_or (is_called m.globals) (function_of m.functions (word i 1)) true ≡ false = (or_parts _ _ kernel).1 in
    rw is (found_function m (word i 1) m.functions there)

-- the function of the chosen entry point is one of the module's
pub entry_known : (m : ModuleState) (name : Option (List ℕ)) (id : ℕ) → ((at : ℕ) → BrokenData m name P8 at → ⊥) → IsSomeAnd (chosen name m.heads) (λ (i : Inst). id ≡ word i 1) → Contains (ids_of m.functions) id
entry_known m name id fine is = chosen_known m (chosen name m.heads) id fine is
