-- Nothing is stored to what is built in: a pointer that leads there is of the class of the variable, since chains go on in the class of their base, and through that class nothing is written.
use Rattle.std.proofs.Common.{◌≡◌, ◌==◌, ◌<◌, ◌||◌, not, ℕ, zero, suc, Bool, true, false, List, [], ◌∷◌, drop, Contains, Option, Some, None, inl, inr, refl, sym, ap, ◌∙◌, subst, arith}
use Rattle.std.specs.Prelude.{option_map, option_and_then}
use Rattle.std.specs.Option.{option_map_or, option_or}
use Rattle.std.specs.List.{list_any}
use Rattle.std.proofs.lemmas.List.Elements.{Contains-append_left}
use Rattle.std.proofs.lemmas.Bool.{not-false}
use Rattle.spv_words.specs.declared.rule.Rule.TheVariants.{M2}
use Rattle.spv_ops.specs.Opcode.{is}
use Rattle.spv_ops.specs.Enumerants.{class_number}
use Rattle.spv_ops.specs.declared.Op.TheVariants as code
use Rattle.spv_ops.specs.declared.StorageClass.TheVariants as storage
use Rattle.spv_module.specs.declared.inst.Inst.{Inst}
use Rattle.spv_module.specs.declared.inst.Function.{Function}
use Rattle.spv_types.specs.Tree.{Tree}
use Rattle.spv_types.specs.Types.{type_tree}
use Rattle.spv_decor.specs.Decorations.{local_insts}
use Rattle.spv_decor.specs.Rows.{word}
use Rattle.spv_index.specs.Locals.{insts_of, type_in, typed, local_type}
use Rattle.spv_index.specs.Pointers.{pointer as pointer_row, pointee, storage_class, pointee_of}
use Rattle.profile_rules.specs.declared.given.Given.{Given}
use Rattle.profile_rules.specs.declared.way.Way.TheVariants.{NonWritable, BufferBlock}
use Rattle.profile_rules.specs.declared.needs.Reached.{Reached}
use Rattle.profile_rules.specs.declared.needs.Reached.TheVariants.{Part, Nothing, Unknown}
use Rattle.profile_rules.specs.AccessRules.{breaks, broken_in}
use Rattle.spv_ops.specs.Groups.{is_atomic}
use Rattle.profile_rules.specs.MemoryRules.{class_of, is_read_only, is_through, breaks_m2}
use Rattle.profile_rules.specs.Places.{is_among, is_variable, places}
use Rattle.profile_rules.specs.TypeRows.{is_pointer, is_int, fails, differ, value_fails, is_not}
use Rattle.profile_rules.specs.ValueRules.{chain_end, is_other_pointer, leads_elsewhere, breaks_t6}
use Rattle.profile_rules.specs.Variables.{classes, is_other_class, is_misclassed}
use Rattle.traces.specs.Runs.{Supplied}
use Rattle.traces.specs.Outcomes.{Result}
use Rattle.module_semantics.specs.Setting.{Setting, global_variable}
use Rattle.module_semantics.specs.State.{Root, global as of_global, Held, value, pointer, Conf}
use Rattle.module_semantics.specs.Operands.{of_module, as_pointer, pointer_at, Target, arg}
use Rattle.module_semantics.specs.Steps.{base}
use Rattle.name_alloc.specs.declared.claims.Key.{Key}
use Rattle.glsl_ast.specs.Tree.{Text, Expr}
use Rattle.glsl_semantics.specs.Shapes.{Typed}
use Rattle.glsl_semantics.specs.States.{State}
use Rattle.glsl_semantics.specs.Expressions.{Program, Argument}
use Rattle.list_law.proofs.Lists.{none_within, empty_of}
use Rattle.list_law.proofs.Options.{none_some}
use Rattle.type_law.specs.Shaped.{AreConstants, HasConstants}
use Rattle.type_law.proofs.Chains.{chain_pointer, HaveTypes}
use Rattle.type_law.proofs.Parts.{row}
use Rattle.type_law.proofs.Vectors.{three_off}
use Rattle.agree_law.specs.Agree.{Naming, AreApart, IfPointer}
use Rattle.agree_law.specs.Blocks.{IsOf, Stands}
use Rattle.agree_law.specs.Evaluates.{IsKept}
use Rattle.agree_law.proofs.Machine.{machine}
use Rattle.call_law.specs.Known.{LendsWhole}
use Rattle.plan_law.specs.InOrder.{IsAmong}
use Rattle.global_law.specs.Chains.{ChainsRise, IsLed, AreLed, ChainsAreRight}
use Rattle.global_law.specs.Parts.{IsInput}
use Rattle.global_law.specs.Starts.{IsStart}
use Rattle.global_law.specs.Walks.{writing}
use Rattle.global_law.specs.Writings.{IsWrittenChain}
use Rattle.global_law.proofs.Path.Asked.{IsWrittenSo}
use Rattle.global_law.proofs.Path.Based.{chain_op, rank, base_lower}
use Rattle.global_law.proofs.Path.Reached.{IsRightChain}
use Rattle.global_law.proofs.Path.Reached as reached
use Rattle.global_law.proofs.Path.Writings.{begins}
use Rattle.typed_law.specs.Conforms.{IsConforming}
use Rattle.typed_law.proofs.Calls.{global_variable_is, global_points}
use Rattle.typed_law.proofs.Lists.{or_left, or_right, and_off, clash, none_by, none_at_fault, found_in}
use Rattle.typed_law.proofs.Values.{same_count, typed_is, global_typed_some}
use Rattle.grammar_law.proofs.Unit.Shaped.{pointer_none}
use Rattle.grammar_law.proofs.Meets.ArrayLengths.{variable_typed}

-- the class of a pointer type that has one, where no other is allowed
class_so : (x : Option Inst) (q n : ℕ) → option_map (λ (g : Inst). word g 1) x ≡ Some q → option_map_or (λ (c : ℕ). not (c == n)) (option_map (λ (g : Inst). word g 0) x) false ≡ false → option_map (λ (g : Inst). word g 0) x ≡ Some n
class_so None q n to off = cc
class_so (Some g) q n to off = ap (λ (c : ℕ). Some c) (same_count (word g 0) n off)

same_root : (q r : Root) (a b : List ℕ) → as_pointer (Some (pointer q a)) ≡ Some (r, b) → q ≡ r
same_root q r a b e =
    let left : Target = (q, a) in
    let second : Target = (r, b) in
    let same : left ≡ second = cc in
    ap (λ (t : Target). t.0) same

module _ (s : Setting) (entry : Option (List ℕ)) (right : IsConforming s.of entry) (chosen : ℕ → Option ℕ) (have : HasConstants s chosen) (f : Function) where
  abbrev Gs : List Inst
  Gs = s.of.globals

  abbrev T : ℕ → Option ℕ
  T = type_in s.of.globals f

  abbrev input : ℕ
  input = class_number storage.Input

  -- P13: a variable of the module is of the class of its pointer
  global_class : (n : ℕ) (v : Inst) → global_variable s n ≡ Some v → class_of Gs f n ≡ Some (word v 0)
  global_class n v at =
      let w = global_variable_is s entry right chosen have n v at in
      let there = found_in Gs n v w.0 in
      let points = global_points s entry right chosen have n v at in
      let some = global_typed_some s entry right v there (variable_typed v.op w.1) in
      let classed = none_at_fault (is_misclassed false Gs) Gs v (λ where_at broken. right.declared.1.1.1.1.1.1.1.1.0 where_at (Contains-append_left (places (is_misclassed false Gs) Gs) (places (is_misclassed true Gs) (local_insts s.of)) where_at broken)) there in
      let own_class = or_right (not (is_among classes (word v 0))) (option_map_or (λ (c : ℕ). not (c == word v 0)) (storage_class Gs v.ty) false) (or_left (is_other_class Gs v) (word v 0 == class_number storage.Function) (and_off (is_variable v) (is_other_class Gs v || (word v 0 == class_number storage.Function)) classed w.1)) in
      ap (λ (o : Option Inst). option_and_then (storage_class Gs) (option_or (option_and_then typed o) (local_type f n))) w.0
      ∙ (ap (λ (o : Option ℕ). option_and_then (storage_class Gs) (option_or o (local_type f n))) (typed_is v some) ∙ class_so (pointer_row Gs v.ty) points.0 (word v 0) points.2 own_class)

  -- T6: a chain is of the class of its base
  as_types : (constants : AreConstants s) (ids : List ℕ) → reached.HaveTypes s f constants ids → HaveTypes s f ids
  as_types constants [] have = tt
  as_types constants (id ∷ ids) have = (have.0, as_types constants ids have.1)

  module _ (constants : AreConstants s) (q : Inst) (fine : IsRightChain s f constants q) (to : ℕ) (t : Tree) (points : pointee_of Gs f (base q) ≡ Some to) (shaped : type_tree Gs to ≡ Some t) where
    abbrev class : Option ℕ
    class = option_and_then (storage_class Gs) (T (word q 0))

    -- a type with a shape is no pointer's
    no_pointer : fails is_pointer Gs to ≡ false → ⊥
    no_pointer off =
        let g = row s f to t shaped in
        let is_one : not (is_pointer g.0) ≡ false = ap (λ (o : Option Inst). option_map_or (λ (x : Inst). not (is_pointer x)) o false) (sym g.1) ∙ off in
        pointer_none Gs g.0 t (not-false (is_pointer g.0) is_one) g.2

    -- it is known where the chain leads: else it might be of any type
    chain_class : (k : ℕ) → class_of Gs f (base q) ≡ Some k → class_of Gs f q.result ≡ Some k
    chain_class k classed = by_end (chain_end Gs T q) refl parts.2
      where
        parts : (value_fails is_pointer Gs T (word q 0) ≡ false) × (list_any (value_fails is_int Gs T) (drop 1 q.args) ≡ false) × (leads_elsewhere Gs q.ty class (chain_end Gs T q) ≡ false)
        parts = three_off (value_fails is_pointer Gs T (word q 0)) (list_any (value_fails is_int Gs T) (drop 1 q.args)) (leads_elsewhere Gs q.ty class (chain_end Gs T q)) fine.t6

        by_end : (r : Reached) → chain_end Gs T q ≡ r → leads_elsewhere Gs q.ty class (chain_end Gs T q) ≡ false → class_of Gs f q.result ≡ Some k
        by_end Nothing at off = clash (sym (ap (leads_elsewhere Gs q.ty class) at) ∙ off)
        by_end Unknown at off = absurd (no_pointer (chain_pointer s f (record q { ty = to }) t free (as_types constants (drop 1 q.args) fine.typed) (ap (option_and_then (type_tree Gs)) points ∙ shaped)))
          where
            free : breaks_t6 Gs T (record q { ty = to }) ≡ false
            free =
                ap (λ (a : Bool). (a || list_any (value_fails is_int Gs T) (drop 1 q.args)) || leads_elsewhere Gs to class (chain_end Gs T q)) parts.0
                ∙ (ap (λ (a : Bool). a || leads_elsewhere Gs to class (chain_end Gs T q)) parts.1 ∙ ap (leads_elsewhere Gs to class) at)
        by_end (Part c) at off =
            let told : is_other_pointer Gs q.ty class c ≡ false = sym (ap (leads_elsewhere Gs q.ty class) at) ∙ off in
            let each = three_off (fails is_pointer Gs q.ty) (option_map_or (λ (x : ℕ). is_not x (storage_class Gs q.ty)) class false) (option_map_or (differ Gs c) (pointee Gs q.ty) false) told in
            let same : is_not k (storage_class Gs q.ty) ≡ false = ap (λ (o : Option ℕ). option_map_or (λ (x : ℕ). is_not x (storage_class Gs q.ty)) o false) (sym classed) ∙ each.1 in
            ap (option_and_then (storage_class Gs)) fine.result ∙ by_class (pointer_row Gs q.ty) fine.points_to same
          where
            by_class : (x : Option Inst) → option_map (λ (g : Inst). word g 1) x ≡ Some fine.to → option_map_or (λ (c : ℕ). not (c == k)) (option_map (λ (g : Inst). word g 0) x) false ≡ false → option_map (λ (g : Inst). word g 0) x ≡ Some k
            by_class x to off = class_so x fine.to k to off

  -- M2
  module _ (in_it : Contains s.of.functions f) (i : Inst) (there : IsAmong i (insts_of f)) where
    written_right : breaks_m2 s.of.heads Gs f i ≡ false
    written_right =
        none_at_fault (breaks s.of.heads Gs f M2) (insts_of f) i
        (λ at has. none_within at (subst (λ (xs : List ℕ). Contains xs at) (none_by (broken_in s.of M2) s.of.functions f (empty_of _ right.accessed.1.0) in_it) has)) there

    no_input : is i.op code.Store ≡ true → class_of Gs f (word i 0) ≡ Some input → ⊥
    no_input store class =
        let off = and_off (is i.op code.Store || is_atomic i.op) (option_map_or (is_read_only (is_through s.of.heads Gs f BufferBlock (word i 0))) (class_of Gs f (word i 0)) false || is_through s.of.heads Gs f NonWritable (word i 0)) written_right (ap (λ (b : Bool). b || is_atomic i.op) store) in
        clash (ap (λ (o : Option ℕ). option_map_or (is_read_only (is_through s.of.heads Gs f BufferBlock (word i 0))) o false) (sym class) ∙ or_left (option_map_or (is_read_only (is_through s.of.heads Gs f BufferBlock (word i 0))) (class_of Gs f (word i 0)) false) (is_through s.of.heads Gs f NonWritable (word i 0)) off)

  -- So a pointer that may be written at an instruction and leads to what is built in is of that class.
  module _ (p : Program) (calls : Text → List Argument → State → Result (Option Typed × State)) (k : ℕ) (m : Naming) (names : AreApart m) (Holds : Conf → Type 0) (b : ℕ) (keeps : IsKept (machine s) Holds) (done : List Inst) (i : Inst) (rest : List Inst)
      (overrides : List (ℕ × Given)) (key : Key → Text) (globals : ℕ → Option Expr) (constants : AreConstants s) (c : Supplied Conf) (z : State) (stands : Stands m s Holds f b done c z) (known : AreLed s c.at.below c.at.top) (whole : LendsWhole s) (rules : ChainsAreRight s) (IsUsable : ℕ → Type 0)
      (ways : (n : ℕ) → IsUsable n → IsWrittenSo p calls k m names s Holds f b keeps done i rest overrides key globals constants c z stands known whole rules IsUsable n) where
    abbrev Leads : ℕ → Root → Type 0
    Leads n r = (at : List ℕ) × (pointer_at s c.at.top n ≡ Some (r, at))

    abbrev Classed : ℕ → Type 0
    Classed n = (r : Root) (at : List ℕ) → pointer_at s c.at.top n ≡ Some (r, at) → IsInput s r → class_of Gs f n ≡ Some input

    rise : ChainsRise (insts_of f)
    rise = subst (λ (g : Function). ChainsRise (insts_of g)) stands.function (rules.rise c.at.top.function known.lending.code.of_module)

    input_class : (n : ℕ) → IsInput s (of_global n) → class_of Gs f n ≡ Some input
    input_class n is = global_class n is.0 is.1 ∙ ap (λ (x : ℕ). Some x) is.2

    start_class : (n : ℕ) (t : Tree) (r : Root) (at : List ℕ) → IsStart p m s (writing s overrides f key globals).source key globals c.at n t r at → IsInput s r → class_of Gs f n ≡ Some input
    start_class n t r at (inl is) one = absurd (subst (IsInput s) is.root one)
    start_class n t r at (inr (inl is)) one = absurd (subst (IsInput s) is.root one)
    start_class n t r at (inr (inr (inl is))) one = input_class n (subst (IsInput s) is.root one)
    start_class n t r at (inr (inr (inr (inl is)))) one = input_class n (subst (IsInput s) is.root one)
    start_class n t r at (inr (inr (inr (inr (inl is))))) one = input_class n (subst (IsInput s) is.root one)
    start_class n t r at (inr (inr (inr (inr (inr is))))) one = input_class n (subst (IsInput s) is.root one)

    -- a chain leads further than its base
    base_leads : (q : Inst) → of_module s q.result ≡ None → IfPointer (c.at.top.ids q.result) (IsLed s c.at.top q) → (r : Root) (at : List ℕ) → pointer_at s c.at.top q.result ≡ Some (r, at) → Leads (base q) r × ((ty : ℕ) × (pointee_of Gs c.at.top.function (base q) ≡ Some ty))
    base_leads q local led r at is = by_own (c.at.top.ids q.result) led is
      where
        by_own : (o : Option Held) → IfPointer o (IsLed s c.at.top q) → as_pointer (elim o as (λ o. Option Held) [ Some h ↦ Some h | None ↦ of_module s q.result ]) ≡ Some (r, at) → Leads (base q) r × ((ty : ℕ) × (pointee_of Gs c.at.top.function (base q) ≡ Some ty))
        by_own None led e = none_some (sym (ap as_pointer local) ∙ e)
        by_own (Some (value v)) led e = cc
        by_own (Some (pointer y way)) led e = ((led.from, led.base_is ∙ ap (λ (x : Root). Some (x, led.from)) (same_root y r way at e)), (led.type, led.points_to))

    below : (h n : ℕ) → rank f n < h → IsUsable n → Classed n
    below zero n low usable r at leads one = absurd (omega (arith, low))
    below (suc h) n low usable r at leads one = by_way (ways n usable) (λ b lower usable at there. below h b lower usable r at there one)
      where
        by_way : IsWrittenSo p calls k m names s Holds f b keeps done i rest overrides key globals constants c z stands known whole rules IsUsable n → ((b : ℕ) → rank f b < h → IsUsable b → (at : List ℕ) → pointer_at s c.at.top b ≡ Some (r, at) → class_of Gs f b ≡ Some input) → class_of Gs f n ≡ Some input
        by_way (inl start) lower_so = let g = begins p calls m s Holds f b done overrides key globals constants c z stands known whole rules n start in start_class n g.shape r at (g.is r at leads) one
        by_way (inr w) lower_so =
            let q : Inst = w.0 in
            let chain : IsWrittenChain p calls z m s overrides f key globals b done q = w.2 in
            let of_top : IsOf q (insts_of c.at.top.function) = subst (λ (g : Function). IsOf q (insts_of g)) (sym stands.function) chain.of_function in
            let led = base_leads q chain.own (known.chains q of_top chain.kind) r at (ap (pointer_at s c.at.top) w.1 ∙ leads) in
            let points : pointee_of Gs f (base q) ≡ Some led.1.0 = ap (λ (g : Function). pointee_of Gs g (base q)) (sym stands.function) ∙ led.1.1 in
            let shape = chain.base_shape led.1.0 points in
            let less = base_lower f q rise chain.of_function (chain_op q.op chain.kind) in
            let lower : rank f (base q) < h = (let at_n : rank f q.result ≡ rank f n = ap (rank f) w.1 in omega (arith, less, low, at_n)) in
            ap (class_of Gs f) (sym w.1) ∙ chain_class constants q w.3 led.1.0 shape.0 points shape.1 input (lower_so (base q) lower w.4 led.0.0 led.0.1)

    -- the law
    pub writable : (in_it : Contains s.of.functions f) → IsAmong i (insts_of f) → is i.op code.Store ≡ true → IsUsable (arg i 0) → (r : Root) (at : List ℕ) → pointer_at s c.at.top (arg i 0) ≡ Some (r, at) → IsInput s r → ⊥
    writable in_it there store usable r at is one = no_input in_it i there store (below (suc (rank f (arg i 0))) (arg i 0) (omega arith) usable r at is one)
