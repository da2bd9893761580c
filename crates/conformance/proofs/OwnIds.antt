-- Where no id is a result twice, no two functions have the same id.
use Rattle.std.proofs.Common.{◌≡◌, ◌<◌, ◌≤◌, ◌+◌, ◌==◌, ◌&&◌, ℕ, zero, suc, true, false, cond, List, [], ◌∷◌, Option, None, Some, length, get_or, map, slice_index, refl, ap, sym, ◌∙◌, subst, not, nat_le, inl, inr, arith}
use Rattle.std.specs.Prelude.{nat_lt}
use Rattle.std.specs.Option.{option_map_or, unwrap_or}
use Rattle.std.proofs.lemmas.List.{get_or_default}
use Rattle.std.proofs.lemmas.Bool.Decides.{eqb_tells, nat_tests}
use Rattle.std.proofs.lemmas.Bool.{or_right, and_from, false_from_ne_true}
use Rattle.spv_words.specs.Words.{insts, no_inst, nth_inst}
use Rattle.spv_words.specs.declared.words.Inst1.{Inst1}
use Rattle.spv_words.specs.declared.rule.Rule.TheVariants.{P2, P3}
use Rattle.spv_ops.specs.Opcode.{number, op_of}
use Rattle.spv_ops.specs.Shape.{shape, count_of}
use Rattle.spv_ops.specs.declared.class.OpShape.{OpShape}
use Rattle.spv_ops.specs.declared.class.OpClass.TheVariants.{Flow}
use Rattle.spv_ops.specs.declared.Op.{Op}
use Rattle.spv_ops.specs.declared.Op.TheVariants as code
use Rattle.spv_module.specs.declared.kind.Kind.{Kind}
use Rattle.spv_module.specs.declared.kind.Kind.TheVariants.{Debug, Function, Other}
use Rattle.spv_module.specs.Inst.{word, inst_of, known, has_type, has_result}
use Rattle.spv_module.specs.Kinds.{kind_of, kind_of_op, kind_of_opcode, is_import}
use Rattle.spv_module.specs.Counts.{is_misfit, is_misfit_of, is_within}
use Rattle.spv_module.specs.Ids.{result_of, result_by, is_out, HasIdOut, HasBadId}
use Rattle.spv_module.specs.Lists.{functions_from, functions, function, with_function}
use Rattle.spv_module.specs.Broken.{IsUnbroken}
use Rattle.profile_rules.specs.Calls.{ids_of, HaveOwnIds}
use Rattle.conformance.proofs.Callees.{not_and}

-- the only opcode of its kind
of_function : (o : Op) → kind_of_op o ≡ Function → o ≡ code.Function
unfolding kind_of_op shape
of_function code.Function h = refl
of_function o h = cc

found_opcode : (o : Option Op) → option_map_or kind_of_op o Other ≡ Function → o ≡ Some code.Function
found_opcode None h = cc
found_opcode (Some o) h = ap Some (of_function o h)

-- a function's instruction is OpFunction
opcode_is : (ws : List ℕ) (i : Inst1) → kind_of ws i ≡ Function → op_of i.opcode ≡ Some code.Function
unfolding kind_of_opcode
opcode_is ws i h =
    (elim ((i.opcode == number code.ExtInst) && is_import ws (word ws i 3)) as (λ b. cond b Debug (kind_of_opcode i.opcode) ≡ Function → op_of i.opcode ≡ Some code.Function) [
      | true ↦ λ e. cc
      | false ↦ λ e. found_opcode (op_of i.opcode) e
    ]) h

function_opcode : (ws : List ℕ) (i : Inst1) → kind_of ws i ≡ Function → known i.opcode ≡ code.Function
unfolding known
function_opcode ws i h = ap (λ (o : Option Op). unwrap_or o code.Nop) (opcode_is ws i h)

function_row : (has_type code.Function ≡ true) × (has_result code.Function ≡ true)
unfolding shape
function_row = (refl, refl)

function_shape : shape code.Function ≡ record { has_type = true; has_result = true; least = 5; most = 5; class = Flow }
unfolding shape
function_shape = refl

-- it has five words, where their number is right
enough_words : (ws : List ℕ) (i : Inst1) → kind_of ws i ≡ Function → is_misfit ws i ≡ false → 5 ≤ i.len
enough_words ws i h fits =
    let is : is_misfit ws i ≡ is_misfit_of ws i code.Function = ap (λ (o : Option Op). option_map_or (is_misfit_of ws i) o false) (opcode_is ws i h) in
    let e : not ((nat_le 5 i.len && nat_le i.len 5) && true) ≡ false = sym (ap (λ (s : OpShape). not (is_within 0 s i.len && true)) function_shape) ∙ sym is ∙ fits in
    let enough : nat_le 5 i.len ≡ true = not_and (nat_le 5 i.len) (nat_le i.len 5) true e in
    grind (arith, nat_tests, enough)

-- its result is the function's id
result_is : (ws : List ℕ) (i : Inst1) → kind_of ws i ≡ Function → result_of ws i ≡ word ws i 2
result_is ws i h =
    let op = function_opcode ws i h in
    let with_type : has_type (known i.opcode) ≡ true = ap has_type op ∙ function_row.0 in
    let with_result : has_result (known i.opcode) ≡ true = ap has_result op ∙ function_row.1 in
    ap (λ k. result_by k (inst_of ws i)) h
    ∙ ap (λ b. cond b (word ws i (1 + count_of (has_type (known i.opcode)))) 0) with_result
    ∙ ap (λ b. word ws i (1 + count_of b)) with_type

-- and it is not 0, where its ids are in order
positive : (ws : List ℕ) (i : Inst1) → kind_of ws i ≡ Function → is_misfit ws i ≡ false → (HasIdOut ws i → ⊥) → 0 < result_of ws i
positive ws i h fits fine =
    let enough : 5 ≤ i.len = enough_words ws i h fits in
    let there : nat_lt 2 i.len ≡ true = grind (arith, nat_tests, enough) in
    let with_type : has_type (known i.opcode) ≡ true = ap has_type (function_opcode ws i h) ∙ function_row.0 in
    let with_word : nat_lt (1 + count_of (has_type (known i.opcode))) i.len ≡ true = ap (λ b. nat_lt (1 + count_of b) i.len) with_type ∙ there in
    let with_result : has_result (known i.opcode) ≡ true = ap has_result (function_opcode ws i h) ∙ function_row.1 in
    let is : result_of ws i ≡ (inst_of ws i).result = ap (λ k. result_by k (inst_of ws i)) h in
    elim (eqb_tells (inst_of ws i).result 0) [
      | inl w ↦
          let out : is_out (slice_index ws 3) (inst_of ws i).result ≡ true = ap (is_out (slice_index ws 3)) w.1 in
          let there_out : (nat_lt (1 + count_of (has_type (known i.opcode))) i.len && is_out (slice_index ws 3) (inst_of ws i).result) ≡ true = and_from (nat_lt (1 + count_of (has_type (known i.opcode))) i.len) (is_out (slice_index ws 3) (inst_of ws i).result) with_word out in
          absurd (fine (λ e. cc, inl (or_right (has_type (known i.opcode) && (nat_lt 1 i.len && is_out (slice_index ws 3) (inst_of ws i).ty)) (has_result (known i.opcode) && (nat_lt (1 + count_of (has_type (known i.opcode))) i.len && is_out (slice_index ws 3) (inst_of ws i).result)) (and_from (has_result (known i.opcode)) (nat_lt (1 + count_of (has_type (known i.opcode))) i.len && is_out (slice_index ws 3) (inst_of ws i).result) with_result there_out))))
      | inr w ↦ omega (arith, is, w.1)
    ]

-- each function among these instructions has a result
abbrev HaveResults : List ℕ → List Inst1 → Type 0
HaveResults ws is = (k : ℕ) (d : Inst1) → k < length is → kind_of ws (get_or is k d) ≡ Function → 0 < result_of ws (get_or is k d)

-- no result stands twice among those of these instructions
abbrev AreOnce : List ℕ → List Inst1 → Type 0
AreOnce ws is = (j k : ℕ) → j < k → k < length is → 0 < get_or (map (result_of ws) is) k 0 → get_or (map (result_of ws) is) j 0 ≡ get_or (map (result_of ws) is) k 0 → ⊥

-- the id of a function is the result of an instruction
abbrev IsResult : List ℕ → List Inst1 → ℕ → Type 0
IsResult ws is x = (k : ℕ) × (k < length is) × (x ≡ get_or (map (result_of ws) is) k 0) × (0 < x)

result_later : (ws : List ℕ) (i : Inst1) (is : List Inst1) (x : ℕ) → IsResult ws is x → IsResult ws (i ∷ is) x
result_later ws i is x from = (suc from.0, omega (arith, from.1), from.2, from.3)

found_step : (ws : List ℕ) (i : Inst1) (is : List Inst1) (kind : Kind) → kind_of ws i ≡ kind → HaveResults ws (i ∷ is) → ((q : ℕ) → q < length (functions_from ws is) → IsResult ws is (get_or (ids_of (functions_from ws is)) q 0))
    → (q : ℕ) → q < length (with_function kind (function ws i is) (functions_from ws is)) → IsResult ws (i ∷ is) (get_or (ids_of (with_function kind (function ws i is) (functions_from ws is))) q 0)
found_step ws i is Function e has later zero inside =
    let own = result_is ws i e in
    let above = has 0 i (omega arith) e in
    (0, omega arith, sym own, omega (arith, above, own))
found_step ws i is Function e has later (suc q) inside = result_later ws i is _ (later q (omega (arith, inside)))
found_step ws i is _ e has later q inside = result_later ws i is _ (later q inside)

found : (ws : List ℕ) (is : List Inst1) → HaveResults ws is → (q : ℕ) → q < length (functions_from ws is) → IsResult ws is (get_or (ids_of (functions_from ws is)) q 0)
found ws [] has q inside = absurd (omega (arith, inside))
found ws (i ∷ is) has q inside = found_step ws i is (kind_of ws i) refl has (λ p h. found ws is (λ k d small. has (suc k) d (omega (arith, small))) p h) q inside

own_step : (ws : List ℕ) (i : Inst1) (is : List Inst1) (kind : Kind) → kind_of ws i ≡ kind → HaveResults ws (i ∷ is) → AreOnce ws (i ∷ is) → HaveOwnIds (functions_from ws is) → HaveOwnIds (with_function kind (function ws i is) (functions_from ws is))
own_step ws i is Function e has once rest zero zero before inside same = absurd (omega (arith, before))
own_step ws i is Function e has once rest (suc p) zero before inside same = absurd (omega (arith, before))
own_step ws i is Function e has once rest zero (suc q) before inside same =
    let from = found ws is (λ k d small. has (suc k) d (omega (arith, small))) q (omega (arith, inside)) in
    let own = result_is ws i e in
    once 0 (suc from.0) (omega arith) (omega (arith, from.1)) (omega (arith, from.2, from.3)) (own ∙ same ∙ from.2)
own_step ws i is Function e has once rest (suc p) (suc q) before inside same = rest p q (omega (arith, before)) (omega (arith, inside)) same
own_step ws i is _ e has once rest p q before inside same = rest p q before inside same

own : (ws : List ℕ) (is : List Inst1) → HaveResults ws is → AreOnce ws is → HaveOwnIds (functions_from ws is)
own ws [] has once = λ p q before inside same. absurd (omega (arith, inside))
own ws (i ∷ is) has once =
    own_step ws i is (kind_of ws i) refl has once
    (own ws is (λ k d small. has (suc k) d (omega (arith, small))) (λ j k before small. once (suc j) (suc k) (omega (arith, before)) (omega (arith, small))))

-- where the rules on numbers of words and on ids are not broken, each function of the module has an id of its own
pub own_ids : (ws : List ℕ) → IsUnbroken ws P2 → IsUnbroken ws P3 → HaveOwnIds (functions ws)
own_ids ws counted fine =
    let fits : (k : ℕ) → k < length (insts ws) → is_misfit ws (nth_inst ws k) ≡ false = λ k inside. false_from_ne_true (is_misfit ws (nth_inst ws k)) (λ misfit. counted (nth_inst ws k).start (k, inside, refl, misfit)) in
    let good : (k : ℕ) → k < length (insts ws) → HasBadId ws k → ⊥ = λ k inside bad. fine (nth_inst ws k).start (k, inside, refl, bad) in
    own ws (insts ws)
    (λ k d inside is.
    let same : nth_inst ws k ≡ get_or (insts ws) k d = get_or_default (insts ws) k no_inst d inside in
    positive ws (get_or (insts ws) k d) is (subst (λ (i : Inst1). is_misfit ws i ≡ false) same (fits k inside)) (λ out. good k inside (rw same (inl out))))
    (λ j k before inside above same. good k inside (inr (above, (j, before, same))))
