-- The function that a call calls has a name: calls reach it from the entry, and it is not the entry, as no calls form a cycle.
use Rattle.std.proofs.Common.{◌≡◌, ◌<◌, ◌==◌, ◌||◌, ℕ, zero, suc, Bool, true, false, List, [], ◌∷◌, length, Option, None, inl, inr, refl, sym, ap, ◌∙◌, subst, arith}
use Rattle.std.specs.Prelude.{◌⊎◌, slice_index}
use Rattle.std.specs.Option.{option_map_or}
use Rattle.std.specs.List.{AllZip, list_any}
use Rattle.std.proofs.lemmas.Bool.Decides.{eqb_tells}
use Rattle.std.proofs.lemmas.Bool.{or_left, or_right}
use Rattle.spv_ops.specs.Opcode.{is}
use Rattle.spv_ops.specs.declared.Op.TheVariants as code
use Rattle.spv_module.specs.Held.{global}
use Rattle.spv_module.specs.Lists.{id}
use Rattle.spv_module.specs.declared.inst.Id.{Id as IdOf}
use Rattle.spv_module.specs.declared.inst.Inst.{Inst}
use Rattle.spv_module.specs.declared.inst.Function.{Function}
use Rattle.spv_index.specs.Locals.{insts_of}
use Rattle.profile_rules.specs.Calls.{is_call, calls_in, callee, ids_of, Makes, Calls, Reaches, IsAcyclic, AreCalleesFunctions, numbers}
use Rattle.conformance.specs.Rules.{Options}
use Rattle.module_semantics.specs.Setting.{Setting}
use Rattle.name_alloc.specs.declared.claims.Key.TheVariants.{Id}
use Rattle.name_alloc.specs.Naming.{name_of}
use Rattle.glsl_ast.specs.Tree.{TranslationUnit}
use Rattle.expr_forward.specs.Scope.{Scope}
use Rattle.expr_forward.specs.Statements.{callee_text}
use Rattle.function_text.specs.Functions.{FunctionPlan, written}
use Rattle.unit_rules.specs.Translation.{Naming, id_text, IsPlanOf}
use Rattle.unit_rules.specs.Unit.{is_called, called, source_of, IsUnitOf}
use Rattle.list_law.proofs.Numbers.{same_number, number_same}
use Rattle.typed_law.specs.Conforms.{IsConforming}
use Rattle.claim_law.specs.Claimed.{IsIn, HasName}
use Rattle.claim_law.proofs.Claim.Named.{function_named}
use Rattle.claim_law.proofs.Claim.Told.{named_is}
use Rattle.grammar_law.specs.Words.{words_of, AreOfStructs}
use Rattle.grammar_law.proofs.Unit.Lists.{contained, of_contained, in_filter, of_filter}
use Rattle.grammar_law.proofs.Unit.Ways.{HaveKinds, F, V, planned, in_module}
use Rattle.grammar_law.proofs.Unit.Words.{own_value}

-- ids in an order
in_numbers : (order : List IdOf) (n : ℕ) → list_any (λ (i : IdOf). i.0 == n) order ≡ true → IsIn n (numbers order)
in_numbers [] n on = cc
in_numbers (i ∷ order) n on = by_test (i.0 == n) refl on (in_numbers order n)
  where
    by_test : (b : Bool) → (i.0 == n) ≡ b → (b || list_any (λ (j : IdOf). j.0 == n) order) ≡ true → (list_any (λ (j : IdOf). j.0 == n) order ≡ true → IsIn n (numbers order)) → (i.0 ≡ n) ⊎ IsIn n (numbers order)
    by_test true same on later = inl (same_number i.0 n same)
    by_test false other on later = inr (later on)

of_numbers : (order : List IdOf) (n : ℕ) → IsIn n (numbers order) → list_any (λ (i : IdOf). i.0 == n) order ≡ true
of_numbers [] n among = absurd among
of_numbers (i ∷ order) n (inl same) = or_left (i.0 == n) (list_any (λ (j : IdOf). j.0 == n) order) (number_same i.0 n same)
of_numbers (i ∷ order) n (inr among) = or_right (i.0 == n) (list_any (λ (j : IdOf). j.0 == n) order) (of_numbers order n among)

pub placed_at : (ns : List ℕ) (n : ℕ) → IsIn n ns → (k : ℕ) × (k < length ns) × (slice_index ns k ≡ n)
placed_at [] n among = absurd among
placed_at (m ∷ ns) n (inl same) = (zero, (let less : 0 < suc (length ns) = omega arith in less), same)
placed_at (m ∷ ns) n (inr among) = let w = placed_at ns n among in (suc w.0, (let low = w.1 in let less : suc w.0 < suc (length ns) = omega (arith, low) in less), w.2)

-- the function with an id
of_ids : (fs : List Function) (n : ℕ) → IsIn n (ids_of fs) → (f : Function) × IsIn f fs × (f.id.0 ≡ n)
of_ids [] n among = absurd among
of_ids (f ∷ fs) n (inl same) = (f, inl refl, same)
of_ids (f ∷ fs) n (inr among) = let w = of_ids fs n among in (w.0, inr w.1, w.2)

-- each function has a plan
plan_of : (R : Function → FunctionPlan → Type 0) (fs : List Function) (ps : List FunctionPlan) (f : Function) → AllZip R fs ps → IsIn f fs → (p : FunctionPlan) × IsIn p ps × R f p
plan_of R [] ps f all among = absurd among
plan_of R (g ∷ fs) [] f all among = absurd all
plan_of R (g ∷ fs) (p ∷ ps) f all (inl same) = (p, inl refl, subst (λ (h : Function). R h p) same all.0)
plan_of R (g ∷ fs) (p ∷ ps) f all (inr among) = let w = plan_of R fs ps f all.1 among in (w.0, inr w.1, w.2)

module _ (s : Setting) (entry : Option (List ℕ)) (right : IsConforming s.of entry) (kinds : HaveKinds s.of.globals) (o : Options) (unit : TranslationUnit) (u : IsUnitOf s.of o unit) (p : FunctionPlan) (among : IsIn p u.plans) (callees : AreCalleesFunctions s.of.functions) (acyclic : IsAcyclic s.of.functions) where
  abbrev Fs : List Function
  Fs = s.of.functions

  abbrev Fn : Function
  Fn = F s entry right kinds o unit u p among

  abbrev Found : Naming
  Found = name_of u.claimed

  -- calls lead from the entry to the planned function
  fn_called : is_called u.order Fn ≡ true
  fn_called = (of_filter (is_called u.order) s.of.functions Fn (planned s entry right kinds o unit u p among).1).1

  fn_reached : Reaches (Calls Fs) u.entry Fn.id.0
  fn_reached =
      let w = placed_at (numbers u.order) Fn.id.0 (in_numbers u.order Fn.id.0 fn_called) in
      subst (Reaches (Calls Fs) u.entry) w.2 (u.calls.next w.0 w.1).ready.reached

  module _ (i : Inst) (there : IsIn i (insts_of Fn)) (on : is i.op code.FunctionCall ≡ true) where
    makes : Makes Fs Fn.id.0 i
    makes = (Fn, in_module s entry right kinds o unit u p among, refl, contained (calls_in Fn) i (in_filter is_call (insts_of Fn) i there on))

    calls : Calls Fs Fn.id.0 (callee i)
    calls = (i, makes, refl)

    pub other_entry : callee i ≡ u.entry → ⊥
    other_entry same = acyclic i.at (Fn.id.0, i, makes, refl, subst (λ (n : ℕ). Reaches (Calls Fs) n Fn.id.0) (sym same) fn_reached)

    reached : Reaches (Calls Fs) u.entry (callee i)
    reached = (suc fn_reached.0, (Fn.id.0, fn_reached.1, calls))

    pub function : (f : Function) × IsIn f Fs × (f.id.0 ≡ callee i)
    function = of_ids Fs (callee i) (of_contained (ids_of Fs) (callee i) (callees Fn.id.0 (callee i) calls))

    pub listed : is_called u.order function.0 ≡ true
    listed = subst (λ (n : ℕ). list_any (λ (k : IdOf). k.0 == n) u.order ≡ true) (sym function.2) (of_numbers u.order (callee i) (of_contained (numbers u.order) (callee i) (u.calls.all (callee i) reached)))

    plan : (q : FunctionPlan) × IsIn q u.plans × IsPlanOf (source_of s.of o u.entry) Found function.0 q
    plan = plan_of (IsPlanOf (source_of s.of o u.entry) Found) (called u.order Fs) u.plans function.0 u.planned (in_filter (is_called u.order) Fs function.0 function.1 listed)

    plan_id : (written plan.0).id.0 ≡ callee i
    plan_id = ap (λ (w : Scope). w.setting.function.id.0) plan.2.scope_is ∙ function.2

    not_entry : ((written plan.0).id.0 == u.entry) ≡ false
    not_entry = elim (eqb_tells (written plan.0).id.0 u.entry) [ inl w ↦ absurd (other_entry (sym plan_id ∙ w.1)) | inr w ↦ w.0 ]

    pub callee_named : HasName Found (Id (id (callee i)))
    callee_named = subst (λ (n : ℕ). HasName Found (Id (id n))) plan_id (function_named s.of o unit u plan.0 plan.1 not_entry)

    -- so it stands in the text where no function's id is that of something outside of functions
    pub callee_uses : (outside : (f : Function) → IsIn f s.of.functions → global s.of.globals f.id.0 ≡ None) → (names : List (List ℕ)) → AreOfStructs s.of.globals (name_of u.claimed) names → (words_of s.of.globals (name_of u.claimed) names).value (callee_text (V s entry right kinds o unit u p among) i)
    callee_uses outside names structs =
        own_value s.of.globals Found u.lawful names structs (id_text Found (callee i))
        (record {
          key = Id (id (callee i));
          is = named_is Found (Id (id (callee i))) callee_named;
          space = refl;
          other = ap (λ (q : Option Inst). option_map_or (λ (g : Inst). is g.op code.TypeStruct) q false) (ap (global s.of.globals) (sym function.2) ∙ outside function.0 function.1);
        })
