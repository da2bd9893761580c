-- What is asked of names where a result gets a value, and where the index of a chain is written or kept.
use Rattle.std.proofs.Common.{◌≡◌, ◌+◌, ◌==◌, ◌&&◌, ◌||◌, not, ℕ, suc, Bool, true, false, List, Option, Some, None, unwrap_or, refl, sym, ap, ◌∙◌, subst, arith}
use Rattle.std.specs.Prelude.{slice_get, slice_index, slice_index_or}
use Rattle.std.specs.Option.{option_map_or}
use Rattle.std.proofs.lemmas.Bool.Decides.{nat_tests}
use Rattle.std.proofs.lemmas.Bool.{and_from, or_left, or_right}
use Rattle.spv_ops.specs.Opcode.{is, number}
use Rattle.spv_ops.specs.OpGroups.{takes_of, group_of}
use Rattle.spv_ops.specs.Operands.{is_id}
use Rattle.spv_ops.specs.Groups.{is_chain}
use Rattle.spv_ops.specs.Shape.{shape}
use Rattle.spv_ops.specs.declared.OpGroup.TheVariants as groups
use Rattle.spv_ops.specs.declared.Op.{Op}
use Rattle.spv_ops.specs.declared.Op.TheVariants as code
use Rattle.spv_module.specs.Inst.{has_type}
use Rattle.spv_module.specs.Lists.{id}
use Rattle.spv_module.specs.declared.inst.Inst.{Inst}
use Rattle.spv_module.specs.declared.inst.Block.{Block}
use Rattle.spv_module.specs.declared.inst.Function.{Function}
use Rattle.spv_module.specs.declared.tree.Length.{Length}
use Rattle.spv_types.specs.Tree.{Tree}
use Rattle.spv_types.specs.Types.{type_tree}
use Rattle.spv_index.specs.Locals.{insts_of}
use Rattle.structure_rules.specs.declared.graph.Node.{Node}
use Rattle.structure_rules.specs.Graph.{graph, nth}
use Rattle.conformance.specs.Rules.{Options}
use Rattle.module_semantics.specs.Setting.{Setting}
use Rattle.use_chains.specs.Slots.{inst_at, is_value, is_taken, is_label_reached, IsLive}
use Rattle.hoist_plan.specs.declared.form.Form.{Form}
use Rattle.hoist_plan.specs.declared.form.Form.TheVariants.{Gone, Forwarded, Local, Hoisted}
use Rattle.hoist_plan.specs.Plan.{wants_by, is_elsewhere_by, repeats_operands}
use Rattle.name_alloc.specs.declared.claims.Key.{Key}
use Rattle.name_alloc.specs.declared.claims.Key.TheVariants.{Id}
use Rattle.name_alloc.specs.Naming.{space_of, name_of}
use Rattle.glsl_ast.specs.Tree.{Expr, name, TranslationUnit}
use Rattle.expr_forward.specs.Scope.{Scope, type_of}
use Rattle.expr_forward.specs.Paths.{index_expr}
use Rattle.expr_forward.specs.declared.kinds.InstKind.TheVariants as kind
use Rattle.function_plan.specs.Phis.{is_gone}
use Rattle.function_plan.specs.Planned.{has_name_by}
use Rattle.function_text.specs.Functions.{FunctionPlan}
use Rattle.unit_rules.specs.Translation.{Naming, text_of, id_text}
use Rattle.unit_rules.specs.Unit.{source_of, claims_by, liveness_of, IsUnitOf}
use Rattle.glsl_grammar.specs.Read.{is_declared}
use Rattle.text_rules.specs.Printed.{is_written_struct}
use Rattle.text_rules.specs.Declarations.{length_extent}
use Rattle.list_law.proofs.Numbers.{from_zero}
use Rattle.claim_law.specs.Uses.{Words, UsesExpr, UsesExtent}
use Rattle.claim_law.specs.Statements.{AsksSet, MeetsInst}
use Rattle.typed_law.specs.Conforms.{IsConforming}
use Rattle.claim_law.specs.Claimed.{IsIn, IsOf, HasName}
use Rattle.claim_law.proofs.Claim.Told.{named_is}
use Rattle.claim_law.proofs.Claim.Listed.{in_flat, at_place}
use Rattle.claim_law.proofs.Claim.Named.{result_named}
use Rattle.grammar_law.specs.Mentioned.{IsMentioned, IsValueIn}
use Rattle.grammar_law.specs.Words.{is_struct_key, words_of, AreOfStructs}
use Rattle.grammar_law.specs.Types.{IsLengthOf}
use Rattle.grammar_law.proofs.Unit.Lists.{as_among}
use Rattle.grammar_law.proofs.Unit.Links.{mention_at}
use Rattle.grammar_law.proofs.Unit.Ways.{HaveKinds, S, F, R, V, plan_is, written_is, ordered, reached_nth, counts_here, wanted_named}
use Rattle.grammar_law.proofs.Unit.Words.{own_value}
use Rattle.grammar_law.proofs.Unit.Structs.{Written, HasNames, named_type_uses}
use Rattle.grammar_law.proofs.Unit.TypesWritten.{live_type_written}
use Rattle.grammar_law.proofs.Unit.ValueNames.{result_names}
use Rattle.grammar_law.proofs.Unit.Chains.{HasWay, place_uses}

-- chains, by their opcodes
pub chain_group : (o : Op) → is_chain o ≡ true → group_of o ≡ groups.Chain
unfolding group_of
chain_group code.AccessChain on = refl
chain_group code.InBoundsAccessChain on = refl
chain_group o on = cc

pub chain_typed : (o : Op) → is_chain o ≡ true → has_type o ≡ true
unfolding shape
chain_typed code.AccessChain on = refl
chain_typed code.InBoundsAccessChain on = refl
chain_typed o on = cc

-- each operand of a chain is a value that it mentions
pub chain_id : (o : Op) (args : List ℕ) (k : ℕ) → is_chain o ≡ true → is_id o args k ≡ true
unfolding is_id
chain_id code.AccessChain args k on = from_zero k
chain_id code.InBoundsAccessChain args k on = from_zero k
chain_id o args k on = cc

pub chain_value : (o : Op) (k : ℕ) → is_chain o ≡ true → is_value o k ≡ true
unfolding takes_of group_of
chain_value code.AccessChain k on = refl
chain_value code.InBoundsAccessChain k on = refl
chain_value o k on = cc

pub chain_no_phi : (o : Op) → is_chain o ≡ true → is o code.Phi ≡ false
unfolding number
chain_no_phi code.AccessChain on = refl
chain_no_phi code.InBoundsAccessChain on = refl
chain_no_phi o on = cc

pub no_zero : (k : ℕ) → not (suc k == 0) ≡ true
no_zero k = grind (arith, nat_tests)

module _ (s : Setting) (entry : Option (List ℕ)) (right : IsConforming s.of entry) (kinds : HaveKinds s.of.globals) (o : Options) (unit : TranslationUnit) (u : IsUnitOf s.of o unit) (p : FunctionPlan) (among : IsIn p u.plans) (names : List (List ℕ)) (structs : AreOfStructs s.of.globals (name_of u.claimed) names) where
  abbrev Gs : List Inst
  Gs = s.of.globals

  abbrev Found : Naming
  Found = name_of u.claimed

  abbrev Fn : Function
  Fn = F s entry right kinds o unit u p among

  abbrev Marks : List Bool
  Marks = R s entry right kinds o unit u p among

  abbrev Where : Scope
  Where = V s entry right kinds o unit u p among

  abbrev W : Words
  W = words_of s.of.globals (name_of u.claimed) names

  -- a name of the text's own that is no struct's
  pub own_text : (key : Key) → HasName Found key → space_of key ≡ None → is_struct_key Gs key ≡ false → W.value (text_of Found key)
  own_text key named space other = own_value Gs Found u.lawful names structs (text_of Found key) (record { key = key; is = named_is Found key named; space = space; other = other })

  -- that of the result of an instruction
  pub result_text : (i : Inst) → IsIn i (insts_of Fn) → (i.result ≡ 0 → ⊥) → HasName Found (Id (id i.result)) → W.value (text_of Found (Id (id i.result)))
  result_text i there some named =
      let own = ((ordered s entry right kinds o unit u p among).own i (as_among (insts_of Fn) i there) some).inside in
      own_text (Id (id i.result)) named refl (ap (λ (q : Option Inst). option_map_or (λ (g : Inst). is g.op code.TypeStruct) q false) own)

  module _ (block : ℕ) (holder : Block) (i : Inst) (there : slice_get Fn.blocks block ≡ Some holder) (inside : IsIn i holder.insts) (some : i.result ≡ 0 → ⊥) where
    stands : IsIn i (insts_of Fn)
    stands = in_flat (λ (b : Block). b.insts) Fn.blocks holder i (at_place Fn.blocks block holder there) inside

    abbrev of_it : IsOf (claims_by (S s entry right kinds o unit u p among) p) i
    of_it = record { number = block; block = holder; there = subst (λ (f : Function). slice_get f.blocks block ≡ Some holder) (sym (written_is s entry right kinds o unit u p among)) there; among = inside }

    scoped : p.scope.form i.result ≡ Where.form i.result
    scoped = ap (λ (w : Scope). w.form i.result) (plan_is s entry right kinds o unit u p among).scope_is

    -- where it has a variable it has a name
    pub formed_text : (x : Form) → Where.form i.result ≡ x → has_name_by x (nth p.graph block).reached (is i.op code.Variable) ≡ true → W.value (text_of Found (Id (id i.result)))
    formed_text x form named =
        result_text i stands some (result_named s.of o unit u p i among of_it (ap (λ (y : Form). has_name_by y (nth p.graph block).reached (is i.op code.Variable)) (scoped ∙ form) ∙ named))

    module _ (here : slice_index_or Marks block false ≡ true) (typed : i.ty ≡ 0 → ⊥) (t : Tree) (shaped : type_tree s.of.globals i.ty ≡ Some t)
        (declared : (g : Inst) → IsIn g s.of.globals → is_written_struct (source_of s.of o u.entry) (Written s.of o unit u) g ≡ true → is_declared names (id_text (name_of u.claimed) g.result) ≡ true)
        (lengths : (l : Length) → IsLengthOf s.of.globals l → UsesExtent (words_of s.of.globals (name_of u.claimed) names) (length_extent (source_of s.of o u.entry) (id_text (name_of u.claimed)) l)) where
      reached : (nth p.graph block).reached ≡ true
      reached = ap (λ (g : List Node). (nth g block).reached) (plan_is s entry right kinds o unit u p among).graph_is ∙ (sym (reached_nth (graph Fn) block) ∙ here)

      marked : slice_index_or (liveness_of (S s entry right kinds o unit u p among) p).reached block false ≡ true
      marked = reached_nth p.graph block ∙ reached

      pub names_there : (x : Form) → Where.form i.result ≡ x → is_gone x ≡ false → HasNames s.of o unit u t
      names_there x form kept = result_names s entry right kinds o unit u p among i stands typed t shaped (live_type_written s.of o unit u p among i of_it marked (ap is_gone (scoped ∙ form) ∙ kept))

      -- a result that gets a value asks for its type and its name
      pub set_asked : (x : Form) → Where.form i.result ≡ x → AsksSet W Found Where (IsValueIn Where Marks block) block i x
      set_asked Local form = (named_type_uses s.of o unit u names declared lengths i.ty t shaped (names_there Local form refl), formed_text Local form (or_left (nth p.graph block).reached (is i.op code.Variable) reached))
      set_asked Hoisted form = formed_text Hoisted form refl
      set_asked Gone form = tt
      set_asked Forwarded form = tt

      -- so does a load, and for the place that it reads
      pub load_meets : HasWay s entry right Fn o unit u names Where.setting.global block (slice_index i.args 0) → MeetsInst W Found Where (IsValueIn Where Marks block) block i kind.Load
      load_meets way = (set_asked (Where.form i.result) refl, place_uses s entry right Fn o unit u names Where.setting.global block (slice_index i.args 0) way)

    -- an index of a live chain is written in its block: it is read as a global, or has a name
    module _ (place k n : ℕ) (on : is_chain i.op ≡ true) (at : inst_at Fn block place ≡ Some i) (here : slice_index_or Marks block false ≡ true) (live : IsLive Fn Marks block place) (arg : slice_get i.args (suc k) ≡ Some n) where
      pub mention : IsMentioned Fn Marks block i n
      mention = record {
        place = place;
        arg = suc k;
        there = at;
        here = here;
        live = live;
        slot = and_from (is_id i.op i.args (suc k)) (is_value i.op (suc k) && is_taken Fn Marks i (suc k)) (chain_id i.op i.args (suc k) on)
            (and_from (is_value i.op (suc k)) (is_taken Fn Marks i (suc k)) (chain_value i.op (suc k) on) (ap (λ (b : Bool). not b || is_label_reached Fn Marks (slice_index i.args (suc k + 1))) (chain_no_phi i.op on)));
        word = arg;
      }

      wanted : (c : ℕ) → wants_by Gs Fn c (mention_at Fn Marks block i n mention) i ≡ true
      unfolding mention
      wanted c =
          or_right (is_elsewhere_by Fn c (mention_at Fn Marks block i n mention) i) (is i.op code.Phi || ((is_chain i.op && not (suc k == 0)) || repeats_operands Gs Fn i))
          (or_right (is i.op code.Phi) ((is_chain i.op && not (suc k == 0)) || repeats_operands Gs Fn i)
          (or_left (is_chain i.op && not (suc k == 0)) (repeats_operands Gs Fn i) (and_from (is_chain i.op) (not (suc k == 0)) on (no_zero k))))

      -- what is no global has a variable
      index_named : (t : Tree) → type_tree Gs (type_of Where n) ≡ Some t → Where.setting.global n ≡ None → HasName Found (Id (id n)) × (Where.form n ≡ Forwarded → ⊥)
      index_named t whole is_it = wanted_named s entry right kinds o unit u p among block n i mention block (counts_here s entry right kinds o unit u p among block i n mention (chain_no_phi i.op on)) wanted t whole is_it

      pub index_apart : (t : Tree) → type_tree Gs (type_of Where n) ≡ Some t → Where.setting.global n ≡ None → Where.form n ≡ Forwarded → ⊥
      index_apart t whole is_it = (index_named t whole is_it).1

      pub index_uses : (t : Tree) → type_tree Gs (type_of Where n) ≡ Some t → is_struct_key Gs (Id (id n)) ≡ false → ((e : Expr) → Where.setting.global n ≡ Some e → UsesExpr W e) → UsesExpr W (index_expr Where.setting n)
      index_uses t whole other read = by_global (Where.setting.global n) refl
        where
          by_global : (q : Option Expr) → Where.setting.global n ≡ q → UsesExpr W (unwrap_or q (name (text_of Found (Id (id n)))))
          by_global (Some e) is_it = read e is_it
          by_global None is_it = own_text (Id (id n)) (index_named t whole is_it).0 refl other
