-- A value of a block, if it is no global: it has a name, or it is the result of a live instruction of the block that stands in expressions there.
use Rattle.std.proofs.Common.{◌≡◌, ◌==◌, ℕ, zero, suc, Bool, true, false, List, [], ◌∷◌, map, Option, Some, None, Contains, unwrap_or, inl, inr, refl, sym, ap, ◌∙◌, subst, if◌then◌else◌}
use Rattle.std.specs.Prelude.{◌⊎◌, find, slice_get, slice_index_or, option_and_then, option_map}
use Rattle.std.specs.Option.{option_map_or, option_or}
use Rattle.std.specs.List.{AllZip}
use Rattle.std.proofs.lemmas.Bool.{or_left}
use Rattle.std.proofs.lemmas.Option.{none-some, same_Some}
use Rattle.spv_ops.specs.Opcode.{is}
use Rattle.spv_ops.specs.Groups.{is_constant as is_constant_op}
use Rattle.spv_ops.specs.declared.Op.TheVariants as code
use Rattle.spv_module.specs.Held.{global}
use Rattle.spv_module.specs.Lists.{id}
use Rattle.spv_module.specs.declared.inst.Id.{Id as IdOf}
use Rattle.spv_module.specs.declared.inst.Inst.{Inst}
use Rattle.spv_module.specs.declared.inst.Block.{Block}
use Rattle.spv_module.specs.declared.inst.Function.{Function}
use Rattle.spv_types.specs.Tree.{Tree}
use Rattle.spv_types.specs.Types.{tree_at, type_tree}
use Rattle.spv_index.specs.Locals.{insts_of, inst_in, parameter_in, typed, global_type, local_type, type_in}
use Rattle.structure_rules.specs.declared.graph.Node.{Node}
use Rattle.structure_rules.specs.Graph.{graph, nth}
use Rattle.conformance.specs.Rules.{Options}
use Rattle.module_semantics.specs.Setting.{Setting}
use Rattle.use_chains.specs.Slots.{inst_at, IsLive}
use Rattle.hoist_plan.specs.declared.form.Form.{Form}
use Rattle.hoist_plan.specs.declared.form.Form.TheVariants.{Forwarded, Local, Hoisted}
use Rattle.hoist_plan.specs.Plan.{Placed, mention_block, mentions_of, results, is_value, wants_by, form_with}
use Rattle.name_alloc.specs.declared.claims.Key.TheVariants.{Id}
use Rattle.name_alloc.specs.Naming.{name_of}
use Rattle.glsl_ast.specs.Tree.{Expr, TranslationUnit}
use Rattle.text_rules.specs.Constants.{Source, is_constant, constant_expr}
use Rattle.text_items.specs.Globals.{global_by}
use Rattle.expr_forward.specs.Scope.{Scope, type_of}
use Rattle.function_plan.specs.Planned.{is_reached_node, has_name_by}
use Rattle.function_text.specs.Functions.{FunctionPlan, written}
use Rattle.unit_rules.specs.Translation.{Naming, id_text, scope_of, IsPlanOf}
use Rattle.unit_rules.specs.Unit.{is_called, called, source_of, IsUnitOf}
use Rattle.list_law.proofs.Numbers.{same_number}
use Rattle.plan_law.specs.InOrder.{AreInOrder}
use Rattle.plan_law.specs.Ordered.{AreOrdered}
use Rattle.plan_law.proofs.Order.{in_order}
use Rattle.typed_law.specs.Conforms.{IsConforming}
use Rattle.typed_law.proofs.Lists.{some_part}
use Rattle.typed_law.proofs.Values.{typed_result, has_a_type, variable_type_is, global_row, inside}
pub use Rattle.typed_law.proofs.Values.{type_of as own_type_of}
use Rattle.claim_law.specs.Claimed.{IsIn, HasName}
use Rattle.claim_law.proofs.Claim.Listed.{in_flat, at_place}
use Rattle.claim_law.proofs.Claim.Constants.{found_in}
use Rattle.claim_law.proofs.Claim.Named.{result_named, parameter_named}
use Rattle.grammar_law.specs.Mentioned.{IsMentioned, Stands, IsValueIn}
use Rattle.grammar_law.proofs.Unit.Lists.{contained, of_filter, found_by, as_among, as_parameter, in_block}
use Rattle.grammar_law.proofs.Unit.Links.{as_linked, mention_at, own_block, placed_in, user_is, mention_stands, maker_live}
use Rattle.grammar_law.proofs.Unit.Forms.{placed, is_placed, made_by, formed_result, form_at, mentioned_form, wanted_form}
use Rattle.grammar_law.proofs.Unit.Shaped.{pointer_none, shaped_value}

-- each plan is that of a function
pub planned_as : (R : Function → FunctionPlan → Type 0) (fs : List Function) (ps : List FunctionPlan) (p : FunctionPlan) → AllZip R fs ps → IsIn p ps → (f : Function) × IsIn f fs × R f p
planned_as R [] [] p all among = absurd among
planned_as R [] (q ∷ ps) p all among = absurd all
planned_as R (f ∷ fs) [] p all among = absurd all
planned_as R (f ∷ fs) (q ∷ ps) p all (inl same) = (f, inl refl, subst (R f) same all.0)
planned_as R (f ∷ fs) (q ∷ ps) p all (inr among) = let w = planned_as R fs ps p all.1 among in (w.0, inr w.1, w.2)

-- whether a block is reached
pub reached_nth : (g : List Node) (b : ℕ) → slice_index_or (map is_reached_node g) b false ≡ (nth g b).reached
reached_nth [] zero = refl
reached_nth [] (suc b) = refl
reached_nth (n ∷ g) zero = refl
reached_nth (n ∷ g) (suc b) = reached_nth g b

-- the type of an instruction that has one
no_hoisted : Hoisted ≡ Forwarded → ⊥
no_hoisted e = cc

no_local : Local ≡ Forwarded → ⊥
no_local e = cc

pub mapped_some : {A B : Type 0} (f : A → B) (x : Option A) (b : B) → option_map f x ≡ Some b → (a : A) × (x ≡ Some a)
mapped_some f None b e = cc
mapped_some f (Some a) b e = (a, refl)

not_read : (b : Bool) (e : Expr) (rest : Option Expr) → b ≡ true → (if b then Some e else rest) ≡ None → ⊥
not_read true e rest on is = cc
not_read false e rest on is = cc

-- outside of functions stand constants and variables, of what has a type
abbrev pub HaveKinds : List Inst → Type 0
HaveKinds gs = (g : Inst) → IsIn g gs → (g.ty ≡ 0 → ⊥) → (is_constant_op g.op ≡ true) ⊎ (is g.op code.Variable ≡ true)

module _ (s : Setting) (entry : Option (List ℕ)) (right : IsConforming s.of entry) (kinds : HaveKinds s.of.globals) (o : Options) (unit : TranslationUnit) (u : IsUnitOf s.of o unit) (p : FunctionPlan) (among : IsIn p u.plans) where
  abbrev pub S : Source
  S = source_of s.of o u.entry

  abbrev pub Found : Naming
  Found = name_of u.claimed

  pub planned : (f : Function) × IsIn f (called u.order s.of.functions) × IsPlanOf S Found f p
  planned = planned_as (IsPlanOf S Found) (called u.order s.of.functions) u.plans p u.planned among

  abbrev pub F : Function
  F = planned.0

  pub plan_is : IsPlanOf S Found F p
  plan_is = planned.2

  pub in_module : Contains s.of.functions F
  in_module = contained s.of.functions F (of_filter (is_called u.order) s.of.functions F planned.1).0

  abbrev pub R : List Bool
  R = map is_reached_node (graph F)

  -- where the function's blocks are written
  abbrev pub V : Scope
  V = scope_of S Found F plan_is.links

  pub written_is : written p ≡ F
  written_is = ap (λ (w : Scope). w.setting.function) plan_is.scope_is

  pub ordered : AreInOrder s.of F
  ordered = (inside s entry right F in_module).order

  placed_order : AreOrdered F (results plan_is.links F)
  placed_order = in_order s.of F ordered R plan_is.links plan_is.live

  -- a result of the function's own
  abbrev IsLiveIn : ℕ → Inst → Type 0
  IsLiveIn block j = (k : ℕ) × (inst_at F block k ≡ Some j) × IsLive F R block k

  abbrev Way : ℕ → ℕ → Inst → Type 0
  Way block n j = (HasName Found (Id (id n)) × (V.form n ≡ Forwarded → ⊥)) ⊎ ((V.form n ≡ Forwarded) × IsLiveIn block j)

  -- a mention counts in a reached block: in its own, and that of a phi in the block that its pair names
  abbrev pub CountsIn : (block : ℕ) (i : Inst) (n : ℕ) → IsMentioned F R block i n → ℕ → Type 0
  CountsIn block i n m b = (mention_block F (mention_at F R block i n m) i ≡ b) × (slice_index_or R b false ≡ true)

  pub counts_here : (block : ℕ) (i : Inst) (n : ℕ) (m : IsMentioned F R block i n) → is i.op code.Phi ≡ false → CountsIn block i n m block
  counts_here block i n m no_phi = (own_block F R block i n (as_linked F R block i n m) no_phi, m.here)

  module _ (block n : ℕ) (i j : Inst) (m : IsMentioned F R block i n) (b : ℕ) (counts : CountsIn block i n m b) (made : inst_in F n ≡ Some j) (some_type : j.ty ≡ 0 → ⊥) (value : is_value s.of.globals j.ty ≡ true) where
    pub result : IsIn j (insts_of F) × (j.result ≡ n)
    result = found_in (insts_of F) n j made

    pub some : j.result ≡ 0 → ⊥
    some =
        let formed = (inside s entry right F in_module).formed j (as_among (insts_of F) j result.0) in
        formed.result (typed_result j.op (has_a_type j formed some_type))

    pub home : (c : ℕ) × (b : Block) × (slice_get F.blocks c ≡ Some b) × IsIn j b.insts
    home = in_block F.blocks j result.0

    abbrev P : Placed
    P = placed plan_is.links home.0 j

    told : (k : ℕ → Option ℕ) × (V.form j.result ≡ form_with s.of.globals F k P)
    told = form_at s.of.globals F plan_is.links placed_order P (is_placed plan_is.links F home.0 home.1 j home.2 home.3 some)

    pub stands : Stands (V.form n) home.0 b
    stands =
        subst (λ (x : Form). Stands x home.0 b) (sym told.1 ∙ ap V.form result.1)
        (subst (λ (c : ℕ). Stands (form_with s.of.globals F told.0 P) home.0 c) counts.0
        (mentioned_form s.of.globals F P told.0 (mention_at F R block i n m) i
        (subst (λ (k : ℕ). IsIn (mention_at F R block i n m) (mentions_of plan_is.links k)) (sym result.1) (mention_stands F R block i n m plan_is.links plan_is.live))
        (user_is F R block i n m) value))

    -- where it has a variable it has a name
    named_by : (x : Form) → V.form n ≡ x → has_name_by x (nth p.graph home.0).reached (is j.op code.Variable) ≡ true → HasName Found (Id (id n))
    named_by x form named =
        subst (λ (k : ℕ). HasName Found (Id (id k))) result.1
        (result_named s.of o unit u p j among
        (record { number = home.0; block = home.1; there = subst (λ (f : Function). slice_get f.blocks home.0 ≡ Some home.1) (sym written_is) home.2; among = home.3 })
        (ap (λ (y : Form). has_name_by y (nth p.graph home.0).reached (is j.op code.Variable)) (ap (λ (w : Scope). w.form j.result) plan_is.scope_is ∙ (ap V.form result.1 ∙ form)) ∙ named))

    pub reached_here : home.0 ≡ b → (nth p.graph home.0).reached ≡ true
    reached_here same =
        ap (λ (g : List Node). (nth g home.0).reached) plan_is.graph_is ∙ (ap (λ (c : ℕ). (nth (graph F) c).reached) same ∙ (sym (reached_nth (graph F) b) ∙ counts.1))

    live_here : home.0 ≡ b → IsLiveIn b j
    live_here same =
        let k = placed_in F home.0 home.1 j home.2 home.3 in
        (k.0, subst (λ (c : ℕ). inst_at F c k.0 ≡ Some j) same k.1, subst (λ (c : ℕ). IsLive F R c k.0) same (maker_live F R block i n m home.0 k.0 j k.1 result.1))

    by_own : (V.form n ≡ Local) ⊎ (V.form n ≡ Forwarded) → home.0 ≡ b → Way b n j
    by_own (inl local) same = inl (named_by Local local (or_left (nth p.graph home.0).reached (is j.op code.Variable) (reached_here same)), λ forwarded. no_local (sym local ∙ forwarded))
    by_own (inr forwarded) same = inr (forwarded, live_here same)

    by_stands : Stands (V.form n) home.0 b → Way b n j
    by_stands (inl top) = inl (named_by Hoisted top refl, λ forwarded. no_hoisted (sym top ∙ forwarded))
    by_stands (inr own) = by_own own.0 own.1

    pub result_way : Way b n j
    result_way = by_stands stands

    -- where the mention asks for a variable, it has one
    pub result_apart : wants_by s.of.globals F home.0 (mention_at F R block i n m) i ≡ true → V.form n ≡ Forwarded → ⊥
    result_apart wants form =
        wanted_form s.of.globals F P told.0 (mention_at F R block i n m) i
        (subst (λ (k : ℕ). IsIn (mention_at F R block i n m) (mentions_of plan_is.links k)) (sym result.1) (mention_stands F R block i n m plan_is.links plan_is.live)) (user_is F R block i n m) value wants (sym told.1 ∙ (ap V.form result.1 ∙ form))

    -- and a name
    pub result_wanted : wants_by s.of.globals F home.0 (mention_at F R block i n m) i ≡ true → HasName Found (Id (id n))
    result_wanted wants = by_way stands
      where
        by_way : Stands (V.form n) home.0 b → HasName Found (Id (id n))
        by_way (inl top) = named_by Hoisted top refl
        by_way (inr own) = by_form own.0 own.1
          where
            by_form : (V.form n ≡ Local) ⊎ (V.form n ≡ Forwarded) → home.0 ≡ b → HasName Found (Id (id n))
            by_form (inl local) same = named_by Local local (or_left (nth p.graph home.0).reached (is j.op code.Variable) (reached_here same))
            by_form (inr forwarded) same = absurd (result_apart wants forwarded)

  abbrev Gs : List Inst
  Gs = s.of.globals

  -- what a function makes is no global
  pub local_outside : (n ty : ℕ) → local_type F n ≡ Some ty → global Gs n ≡ None
  local_outside n ty told = by_parameter (parameter_in F n) refl told
    where
      by_parameter : (x : Option ℕ) → parameter_in F n ≡ x → option_or x (option_and_then typed (inst_in F n)) ≡ Some ty → global Gs n ≡ None
      by_parameter (Some y) made told =
          let q = mapped_some (λ (r : IdOf × IdOf). r.1.0) (find (λ (r : IdOf × IdOf). r.0.0 == n) F.params) y made in
          let w = found_by (λ (r : IdOf × IdOf). r.0.0 == n) F.params q.0 q.1 in
          subst (λ (k : ℕ). global Gs k ≡ None) (same_number q.0.0.0 n w.1) ((inside s entry right F in_module).outside q.0 (as_parameter q.0 F.params w.0))
      by_parameter None made told =
          let j = some_part typed (inst_in F n) ty told in
          let w = found_in (insts_of F) n j.0 j.1 in
          let own = own_type_of j.0 ty j.2 in
          let formed = (inside s entry right F in_module).formed j.0 (as_among (insts_of F) j.0 w.0) in
          subst (λ (k : ℕ). global Gs k ≡ None) w.1 (ordered.own j.0 (as_among (insts_of F) j.0 w.0) (formed.result (typed_result j.0.op (has_a_type j.0 formed own.1)))).inside

  -- what makes a value that is no global: a parameter, which has a name, or an instruction
  module _ (n : ℕ) (t : Tree) (whole : type_tree s.of.globals (type_of V n) ≡ Some t) (local : V.setting.global n ≡ None) where
    abbrev pub IsMadeSo : Type 0
    IsMadeSo = (HasName Found (Id (id n)) × (V.form n ≡ Forwarded → ⊥)) ⊎ ((j : Inst) × ((inst_in F n ≡ Some j) × (j.ty ≡ 0 → ⊥) × (type_tree s.of.globals j.ty ≡ Some t)))

    by_inst : (ty : ℕ) → type_tree Gs ty ≡ Some t → option_and_then typed (inst_in F n) ≡ Some ty → IsMadeSo
    by_inst ty shaped is =
        let j = some_part typed (inst_in F n) ty is in
        let own = own_type_of j.0 ty j.2 in
        inr (j.0, (j.1, own.1, ap (type_tree Gs) own.0 ∙ shaped))

    by_parameter : (q : IdOf × IdOf) → IsIn q F.params → q.0.0 ≡ n → (y : ℕ) → parameter_in F n ≡ Some y → IsMadeSo
    by_parameter q there same y made = inl (
      subst (λ (k : ℕ). HasName Found (Id (id k))) same (parameter_named s.of o unit u p q among (subst (λ (f : Function). IsIn q f.params) (sym written_is) there)),
      λ forwarded. never (formed_result Gs F plan_is.links n forwarded),
    )
      where
        never : (P : Placed) × IsIn P (results plan_is.links F) × (P.result ≡ n) → ⊥
        never w =
            let by = made_by plan_is.links F w.0 w.1 in
            let j_in : IsIn by.inst (insts_of F) = in_flat (λ (b : Block). b.insts) F.blocks by.holder by.inst (at_place F.blocks by.block by.holder by.there) by.among in
            let own = (ordered.own by.inst (as_among (insts_of F) by.inst j_in) by.some).made in
            let result_is : by.inst.result ≡ n = ap (λ (x : Placed). x.result) by.is ∙ w.2 in
            none-some y (sym own ∙ (ap (parameter_in F) result_is ∙ made))

    by_local : (x : Option ℕ) → parameter_in F n ≡ x → (ty : ℕ) → type_tree Gs ty ≡ Some t → option_or x (option_and_then typed (inst_in F n)) ≡ Some ty → IsMadeSo
    by_local None made ty shaped is = by_inst ty shaped is
    by_local (Some y) made ty shaped is =
        let q = mapped_some (λ (r : IdOf × IdOf). r.1.0) (find (λ (r : IdOf × IdOf). r.0.0 == n) F.params) y made in
        let w = found_by (λ (r : IdOf × IdOf). r.0.0 == n) F.params q.0 q.1 in
        by_parameter q.0 w.0 (same_number q.0.0.0 n w.1) y made

    -- no global has its id and its type
    pub never_global : (g : Inst) → IsIn g Gs → global Gs n ≡ Some g → (g.ty ≡ 0 → ⊥) → type_tree Gs g.ty ≡ Some t → (is_constant_op g.op ≡ true) ⊎ (is g.op code.Variable ≡ true) → ⊥
    never_global g there at some shaped (inl constant) =
        not_read (is_constant g) (constant_expr S (id_text Found) g) _ constant (ap (option_and_then (global_by S (id_text Found))) (sym at) ∙ local)
    never_global g there at some shaped (inr variable) =
        let row = global_row s entry right g (as_among Gs g there) some in
        pointer_none Gs row.0 t (variable_type_is g.op row.0 variable row.2) (ap (λ x. option_map_or (tree_at Gs) x None) (sym row.1) ∙ shaped)

    by_global : (x : Option ℕ) → global_type Gs n ≡ x → (ty : ℕ) → type_tree Gs ty ≡ Some t → option_or x (local_type F n) ≡ Some ty → IsMadeSo
    by_global None at ty shaped is = by_local (parameter_in F n) refl ty shaped is
    by_global (Some y) at ty shaped is =
        let g = some_part typed (global Gs n) y at in
        let own = own_type_of g.0 y g.2 in
        let there = found_in Gs n g.0 g.1 in
        absurd (never_global g.0 there.0 g.1 own.1 (ap (type_tree Gs) (own.0 ∙ same_Some y ty is) ∙ shaped) (kinds g.0 there.0 own.1))

    by_type : (x : Option ℕ) → type_in Gs F n ≡ x → type_tree Gs (unwrap_or x 0) ≡ Some t → IsMadeSo
    by_type None is shaped = absurd (none-some t (sym (ap (λ x. option_map_or (tree_at Gs) x None) right.results.none) ∙ shaped))
    by_type (Some ty) is shaped = by_global (global_type Gs n) refl ty shaped is

    pub maker : IsMadeSo
    maker = by_type (type_in Gs F n) refl whole

  -- the law
  abbrev pub IsOwnResult : ℕ → ℕ → Tree → Inst → Type 0
  IsOwnResult block n t j = (inst_in F n ≡ Some j) × (V.form n ≡ Forwarded) × IsLiveIn block j × (type_tree s.of.globals j.ty ≡ Some t)

  module _ (block n : ℕ) (v : IsValueIn V R block n) (local : V.setting.global n ≡ None) where
    abbrev Goal : Type 0
    Goal = (HasName Found (Id (id n)) × (V.form n ≡ Forwarded → ⊥)) ⊎ ((j : Inst) × IsOwnResult block n v.shape j)

    by_result : (j : Inst) → inst_in F n ≡ Some j → type_tree Gs j.ty ≡ Some v.shape → Way block n j → Goal
    by_result j made shaped (inl named) = inl named
    by_result j made shaped (inr own) = inr (j, (made, own.0, own.1, shaped))

    by_maker : IsMadeSo n v.shape v.shaped local → Goal
    by_maker (inl named) = inl named
    by_maker (inr w) = by_result w.0 w.1.0 w.1.2 (result_way block n v.user w.0 v.mentioned block (counts_here block v.user n v.mentioned v.no_phi) w.1.0 w.1.1 (shaped_value Gs w.0.ty v.shape w.1.2))

    pub ways : Goal
    ways = by_maker (maker n v.shape v.shaped local)

  -- where the mention asks for a variable, as that of a phi and of an index does, the value has a name, and stands in no expression
  module _ (block n : ℕ) (i : Inst) (m : IsMentioned F R block i n) (b : ℕ) (counts : CountsIn block i n m b) (wants : (c : ℕ) → wants_by s.of.globals F c (mention_at F R block i n m) i ≡ true) (t : Tree) (whole : type_tree s.of.globals (type_of V n) ≡ Some t) (local : V.setting.global n ≡ None) where
    by_wanted : IsMadeSo n t whole local → HasName Found (Id (id n)) × (V.form n ≡ Forwarded → ⊥)
    by_wanted (inl named) = named
    by_wanted (inr w) =
        let asks = wants (home block n i w.0 m b counts w.1.0 w.1.1 (shaped_value Gs w.0.ty t w.1.2)).0 in
        (result_wanted block n i w.0 m b counts w.1.0 w.1.1 (shaped_value Gs w.0.ty t w.1.2) asks, result_apart block n i w.0 m b counts w.1.0 w.1.1 (shaped_value Gs w.0.ty t w.1.2) asks)

    pub wanted_named : HasName Found (Id (id n)) × (V.form n ≡ Forwarded → ⊥)
    wanted_named = by_wanted (maker n t whole local)
