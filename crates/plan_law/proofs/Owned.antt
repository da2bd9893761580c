-- No result of an instruction in a block is one of a global or of a parameter, where P3 and P4 are not broken.
use Rattle.std.proofs.Common.{◌≡◌, ◌<◌, ◌+◌, ◌==◌, ◌&&◌, ℕ, suc, Bool, true, false, List, [], ◌∷◌, ◌++◌, length, map, take, Option, Some, None, inl, refl, sym, subst, ◌∙◌, if◌then◌else◌, arith}
use Rattle.std.specs.Prelude.{unwrap_or}
use Rattle.std.specs.Option.{option_map_or}
use Rattle.std.proofs.lemmas.Bool.{false_from_ne_true}
use Rattle.spv_words.specs.Words.{insts, nth_inst}
use Rattle.spv_words.specs.declared.rule.Rule.TheVariants.{P3, P4}
use Rattle.spv_words.specs.declared.words.Inst1.{Inst1}
use Rattle.spv_ops.specs.Opcode.{number, op_of}
use Rattle.spv_ops.specs.Shape.{shape, count_of}
use Rattle.spv_ops.specs.declared.opcode.Op.{Op}
use Rattle.spv_ops.specs.declared.opcode.Op.TheVariants as op
use Rattle.spv_module.specs.declared.kind.Kind.{Kind}
use Rattle.spv_module.specs.declared.kind.Kind.TheVariants.{Debug, Head, Global, Undef, Variable, Function as Opening_of, Parameter, End, Label, Other}
use Rattle.spv_module.specs.declared.kind.Place.{Place}
use Rattle.spv_module.specs.declared.kind.Place.TheVariants.{Outside, Opening}
use Rattle.spv_module.specs.declared.inst.Inst.{Inst}
use Rattle.spv_module.specs.declared.inst.Function.{Function}
use Rattle.spv_module.specs.Inst.{inst_of, word, has_type, has_result, known}
use Rattle.spv_module.specs.Kinds.{kind_of, kind_of_op, kind_of_opcode, kinds, is_import}
use Rattle.spv_module.specs.Form.{after, place_from, is_stray, nth_kind}
use Rattle.spv_module.specs.Broken.{IsUnbroken}
use Rattle.spv_module.specs.Ids.{result_by, result_of}
use Rattle.spv_module.specs.Lists.{id as id_of, is_global, globals_from, globals, with_inst, block_insts, block, with_block, blocks, with_param, params, function, with_function, functions_from, functions}
use Rattle.spv_index.specs.Locals.{insts_of}
use Rattle.list_law.proofs.Lists.{map_length}
use Rattle.plan_law.specs.InOrder.{HaveNot}
use Rattle.plan_law.specs.Distinct.{IsNone, AreDistinct, Avoid, AreNone, AllAvoid, AllNone}
use Rattle.plan_law.proofs.Listed.{flat, none_has, distinct}

-- none of the functions' instructions has this result
abbrev HaveNotAll : ℕ → List Function → Type 0
HaveNotAll id [] = Unit {0}
HaveNotAll id (f ∷ fs) = HaveNot id (insts_of f) × HaveNotAll id fs

-- none of these kinds stands where it may not
abbrev NoStray : Place → List Kind → Type 0
NoStray p [] = Unit {0}
NoStray p (k ∷ ks) = (is_stray p k ≡ false) × NoStray (after p k) ks

abbrev IsInside : Place → Type 0
IsInside Outside = ⊥
IsInside p = Unit {0}

avoid_none : (gs : List Inst) → Avoid gs []
avoid_none [] = tt
avoid_none (g ∷ gs) = (λ some. tt, avoid_none gs)

avoid_more : (j : Inst) (gs js : List Inst) → ((j.result ≡ 0 → ⊥) → HaveNot j.result gs) → Avoid gs js → Avoid gs (j ∷ js)
avoid_more j [] js far avoid = tt
avoid_more j (g ∷ gs) js far avoid = (λ some. (λ same. (far (λ lacks. some (sym same ∙ lacks))).0 (sym same), avoid.0 some), avoid_more j gs js (λ some. (far some).1) avoid.1)

all_more : (g : Inst) (gs : List Inst) (fs : List Function) → ((g.result ≡ 0 → ⊥) → HaveNotAll g.result fs) → AllAvoid gs fs → AllAvoid (g ∷ gs) fs
all_more g gs [] far avoid = tt
all_more g gs (f ∷ fs) far avoid = ((λ some. (far some).0, avoid.0), all_more g gs fs (λ some. (far some).1) avoid.1)

no_stray : (p : Place) (ks : List Kind) → ((k : ℕ) → k < length ks → is_stray (place_from p (take k ks)) (nth_kind ks k) ≡ true → ⊥) → NoStray p ks
no_stray p [] far = tt
no_stray p (k ∷ ks) far = (false_from_ne_true (is_stray p k) (far 0 (let less : 0 < suc (length ks) = omega arith in less)), no_stray (after p k) ks (λ n less. far (suc n) (let more : suc n < suc (length ks) = omega (arith, less) in more)))

-- a parameter's result is its second word
of_parameter : (o : Option Op) (w : ℕ → ℕ) → option_map_or kind_of_op o Other ≡ Parameter → (if has_result (unwrap_or o op.Nop) then w (1 + count_of (has_type (unwrap_or o op.Nop))) else 0) ≡ w 2
unfolding kind_of_op shape
of_parameter None w e = cc
of_parameter (Some op.FunctionParameter) w e = refl
of_parameter (Some o) w e = cc

module _ (ws : List ℕ) where
  abbrev body : List Inst1 → List Inst
  body is = block_insts ws is ++ flat (blocks ws is)

  pub parameter_result : (i : Inst1) → kind_of ws i ≡ Parameter → (inst_of ws i).result ≡ word ws i 2
  unfolding kind_of_opcode known
  parameter_result i e = by_test ((i.opcode == number op.ExtInst) && is_import ws (word ws i 3)) e
    where
      by_test : (b : Bool) → (if b then Debug else kind_of_opcode i.opcode) ≡ Parameter → (inst_of ws i).result ≡ word ws i 2
      by_test true e = cc
      by_test false e = of_parameter (op_of i.opcode) (word ws i) e

  no_global : (id : ℕ) (p : Place) (is : List Inst1) → IsNone id (map (result_of ws) is) → HaveNot id (globals_from ws p is)
  no_global id p [] gives = tt
  no_global id p (i ∷ is) gives = by_kind p (kind_of ws i) (no_global id (after p (kind_of ws i)) is gives.1) gives.0
    where
      by_kind : (p : Place) (k : Kind) → HaveNot id (globals_from ws (after p k) is) → (result_by k (inst_of ws i) ≡ id → ⊥) → HaveNot id (if is_global p k then inst_of ws i ∷ globals_from ws (after p k) is else globals_from ws (after p k) is)
      by_kind p Global rest far = (far, rest)
      by_kind Outside Undef rest far = (far, rest)
      by_kind Outside Variable rest far = (far, rest)
      by_kind p k rest far = rest

  no_function : (id : ℕ) (is : List Inst1) → IsNone id (map (result_of ws) is) → HaveNotAll id (functions_from ws is)
  no_function id [] gives = tt
  no_function id (i ∷ is) gives = by_kind (kind_of ws i) (no_function id is gives.1)
    where
      by_kind : (k : Kind) → HaveNotAll id (functions_from ws is) → HaveNotAll id (with_function k (function ws i is) (functions_from ws is))
      by_kind Opening_of more = ((none_has ws id is gives.1).1, more)
      by_kind k more = more

  -- the globals from here on against the functions from here on, and against the rest of the function in which this is
  abbrev Apart : Place → List Inst1 → Type 0
  Apart p is = AllAvoid (globals_from ws p is) (functions_from ws is) × (IsInside p → Avoid (globals_from ws p is) (body is) × Avoid (globals_from ws p is) (flat (blocks ws is)))

  -- of an instruction of this kind before the rest
  abbrev globals_by : Inst1 → List Inst1 → Place → Kind → List Inst
  globals_by i is p k = if is_global p k then inst_of ws i ∷ globals_from ws (after p k) is else globals_from ws (after p k) is

  abbrev ApartBy : Inst1 → List Inst1 → Place → Kind → Type 0
  ApartBy i is p k =
      AllAvoid (globals_by i is p k) (with_function k (function ws i is) (functions_from ws is))
      × (IsInside p → Avoid (globals_by i is p k) (with_inst k (inst_of ws i) (block_insts ws is) ++ flat (with_block k (block ws i is) (blocks ws is))) × Avoid (globals_by i is p k) (flat (with_block k (block ws i is) (blocks ws is))))

  apart_from : (p : Place) (is : List Inst1) → NoStray p (map (kind_of ws) is) → AreDistinct (map (result_of ws) is) → Apart p is
  apart_from p [] right distinct = (tt, λ inside. (tt, tt))
  apart_from p (i ∷ is) right distinct = by_kind p (kind_of ws i) right.0 (apart_from (after p (kind_of ws i)) is right.1 distinct.1) distinct.0
    where
      by_kind : (p : Place) (k : Kind) → is_stray p k ≡ false → Apart (after p k) is → ((result_by k (inst_of ws i) ≡ 0 → ⊥) → IsNone (result_by k (inst_of ws i)) (map (result_of ws) is)) → ApartBy i is p k
      by_kind Outside Debug right rest far = (rest.0, λ inside. absurd inside)
      by_kind Outside Head right rest far = (rest.0, λ inside. absurd inside)
      by_kind Outside Global right rest far = (all_more (inst_of ws i) (globals_from ws Outside is) (functions_from ws is) (λ some. no_function (inst_of ws i).result is (far some)) rest.0, λ inside. absurd inside)
      by_kind Outside Undef right rest far = (all_more (inst_of ws i) (globals_from ws Outside is) (functions_from ws is) (λ some. no_function (inst_of ws i).result is (far some)) rest.0, λ inside. absurd inside)
      by_kind Outside Variable right rest far = (all_more (inst_of ws i) (globals_from ws Outside is) (functions_from ws is) (λ some. no_function (inst_of ws i).result is (far some)) rest.0, λ inside. absurd inside)
      by_kind Outside Opening_of right rest far = (((rest.1 tt).1, rest.0), λ inside. absurd inside)
      by_kind Outside k right rest far = cc
      by_kind p Global right rest far = cc
      by_kind p Head right rest far = cc
      by_kind p Label right rest far = (rest.0, λ inside. ((rest.1 tt).0, (rest.1 tt).0))
      by_kind p End right rest far = (rest.0, λ inside. (avoid_none (globals_from ws Outside is), avoid_none (globals_from ws Outside is)))
      by_kind p Debug right rest far = (rest.0, λ inside. rest.1 tt)
      by_kind p Opening_of right rest far =
          (((rest.1 tt).1, rest.0), λ inside. (avoid_more (inst_of ws i) (globals_from ws Opening is) (body is) (λ some. no_global (inst_of ws i).result Opening is (far some)) (rest.1 tt).0, (rest.1 tt).1))
      by_kind p k right rest far = (rest.0, λ inside. (avoid_more (inst_of ws i) (globals_from ws (after p k) is) (body is) (λ some. no_global (inst_of ws i).result (after p k) is (far some)) (rest.1 tt).0, (rest.1 tt).1))

  -- the parameters up to the first label against the blocks
  params_none : (is : List Inst1) → AreDistinct (map (result_of ws) is) → AreNone (params ws is) (flat (blocks ws is))
  params_none [] distinct = tt
  params_none (i ∷ is) distinct = by_kind (kind_of ws i) refl (params_none is distinct.1) distinct.0
    where
      by_kind : (k : Kind) → kind_of ws i ≡ k → AreNone (params ws is) (flat (blocks ws is)) → ((result_by k (inst_of ws i) ≡ 0 → ⊥) → IsNone (result_by k (inst_of ws i)) (map (result_of ws) is)) → AreNone (with_param k (id_of (word ws i 2), id_of (word ws i 1)) (params ws is)) (flat (with_block k (block ws i is) (blocks ws is)))
      by_kind Parameter is_it rest far =
          (subst (λ (n : ℕ). (n ≡ 0 → ⊥) → HaveNot n (flat (blocks ws is))) (parameter_result i is_it) (λ some. (none_has ws (inst_of ws i).result is (far some)).1), rest)
      by_kind Label is_it rest far = tt
      by_kind End is_it rest far = tt
      by_kind k is_it rest far = rest

  none_of_params : (is : List Inst1) → AreDistinct (map (result_of ws) is) → AllNone (functions_from ws is)
  none_of_params [] distinct = tt
  none_of_params (i ∷ is) distinct = by_kind (kind_of ws i) (none_of_params is distinct.1)
    where
      by_kind : (k : Kind) → AllNone (functions_from ws is) → AllNone (with_function k (function ws i is) (functions_from ws is))
      by_kind Opening_of more = (params_none is distinct.1, more)
      by_kind k more = more

  -- where P3 and P4 are not broken
  pub all_avoid : IsUnbroken ws P3 → IsUnbroken ws P4 → AllAvoid (globals ws) (functions ws)
  all_avoid ids form =
      (apart_from Outside (insts ws) (no_stray Outside (kinds ws) (λ k less stray.
      let inside : k < length (insts ws) = subst (λ n. k < n) (map_length (kind_of ws) (insts ws)) less in
      form (nth_inst ws k).start (k, inside, refl, inl stray))) (distinct ws ids)).0

  -- where P3 is not broken
  pub all_none : IsUnbroken ws P3 → AllNone (functions ws)
  all_none ids = none_of_params (insts ws) (distinct ws ids)
