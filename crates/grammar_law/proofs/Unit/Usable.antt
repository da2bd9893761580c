-- The values of a block are usable: each is read as a global, has a name, or is written as an operation on usable values that are lower.
use Rattle.std.proofs.Common.{◌≡◌, ℕ, Bool, true, false, List, [], ◌∷◌, Option, Some, inl, inr, refl, sym, ◌∙◌, subst}
use Rattle.std.specs.Prelude.{◌⊎◌, slice_index_or}
use Rattle.std.proofs.lemmas.Option.{same_Some}
use Rattle.spv_ops.specs.Opcode.{is, number}
use Rattle.spv_ops.specs.OpGroups.{group_of}
use Rattle.spv_ops.specs.declared.Op.{Op}
use Rattle.spv_ops.specs.declared.Op.TheVariants as code
use Rattle.spv_module.specs.Lists.{id}
use Rattle.spv_module.specs.declared.inst.Inst.{Inst}
use Rattle.spv_module.specs.declared.inst.Function.{Function}
use Rattle.spv_types.specs.Tree.{Tree}
use Rattle.spv_types.specs.Types.{type_tree}
use Rattle.spv_index.specs.Locals.{insts_of, inst_in}
use Rattle.conformance.specs.Rules.{Options}
use Rattle.module_semantics.specs.Setting.{Setting}
use Rattle.use_chains.specs.Slots.{inst_at, IsLive}
use Rattle.hoist_plan.specs.declared.form.Form.TheVariants.{Forwarded}
use Rattle.name_alloc.specs.declared.claims.Key.TheVariants.{Id}
use Rattle.glsl_ast.specs.Tree.{TranslationUnit}
use Rattle.expr_forward.specs.Kinds.{kind_of, operation_kind_of}
use Rattle.expr_forward.specs.Scope.{Scope}
use Rattle.function_text.specs.Functions.{FunctionPlan}
use Rattle.unit_rules.specs.Unit.{IsUnitOf}
use Rattle.claim_law.specs.Ranked.{operand_ids, AreBelow, IsForwardedBy}
use Rattle.claim_law.specs.Asked.{AreRanked}
use Rattle.typed_law.specs.Conforms.{IsConforming}
use Rattle.claim_law.specs.Claimed.{IsIn, HasName}
use Rattle.claim_law.proofs.Claim.Constants.{found_in}
use Rattle.grammar_law.specs.Mentioned.{IsMentioned, IsValueIn}
use Rattle.grammar_law.proofs.Unit.Lists.{as_among}
use Rattle.grammar_law.proofs.Unit.Shaped.{shaped_value}
use Rattle.grammar_law.proofs.Unit.Ways.{HaveKinds, Found, F, R, V, in_module, plan_is, ordered, ways}
use Rattle.grammar_law.proofs.Unit.Operands.{takes_values, values_kind, operand_shaped, operation_no_phi, operand_mentioned}
use Rattle.grammar_law.proofs.Unit.Ranked.{rank, rank_low, rank_falls}

no_undef_by : (o : Op) → takes_values (operation_kind_of o) ≡ true → is o code.Undef ≡ false
unfolding operation_kind_of kind_of group_of number
no_undef_by code.Undef values = cc
no_undef_by o values = refl

module _ (s : Setting) (entry : Option (List ℕ)) (right : IsConforming s.of entry) (kinds : HaveKinds s.of.globals) (o : Options) (unit : TranslationUnit) (u : IsUnitOf s.of o unit) (p : FunctionPlan) (among : IsIn p u.plans) where
  abbrev Fn : Function
  Fn = F s entry right kinds o unit u p among

  abbrev Marks : List Bool
  Marks = R s entry right kinds o unit u p among

  abbrev Where : Scope
  Where = V s entry right kinds o unit u p among

  abbrev pub Ranks : ℕ → ℕ
  Ranks = rank s.of Fn (ordered s entry right kinds o unit u p among) Marks (plan_is s entry right kinds o unit u p among).links (plan_is s entry right kinds o unit u p among).live

  -- a live operation of a reached block has usable operands, where its result has a shape
  module _ (block place : ℕ) (i : Inst) (there : inst_at Fn block place ≡ Some i) (stands : IsIn i (insts_of Fn)) (here : slice_index_or Marks block false ≡ true) (live : IsLive Fn Marks block place) (t : Tree) (shaped : type_tree s.of.globals i.ty ≡ Some t) where
    mentioned_here : (id : ℕ) → IsIn id (operand_ids i) → IsMentioned Fn Marks block i id
    mentioned_here id operand = operand_mentioned s entry right Fn (in_module s entry right kinds o unit u p among) i (as_among (insts_of Fn) i stands) Marks block place there here live id operand

    pub operand_usable : (id : ℕ) → IsIn id (operand_ids i) → IsValueIn Where Marks block id
    operand_usable id operand =
        let shape = operand_shaped s entry right Fn (in_module s entry right kinds o unit u p among) i (as_among (insts_of Fn) i stands) t shaped id operand in
        record {
          user = i;
          mentioned = mentioned_here id operand;
          no_phi = operation_no_phi s entry right Fn (in_module s entry right kinds o unit u p among) i (as_among (insts_of Fn) i stands) id operand;
          shape = shape.0;
          shaped = shape.1;
        }

    -- they are lower, where it stands in expressions itself
    pub operands_fall : (n : ℕ) → inst_in Fn n ≡ Some i → Where.form n ≡ Forwarded → (ids : List ℕ) → ((id : ℕ) → IsIn id ids → IsIn id (operand_ids i)) → AreBelow Ranks (Ranks n) ids
    operands_fall n made form [] sub = tt
    operands_fall n made form (id ∷ ids) sub =
        let operand = sub id (inl refl) in (
          rank_falls s.of Fn (ordered s entry right kinds o unit u p among) Marks (plan_is s entry right kinds o unit u p among).links (plan_is s entry right kinds o unit u p among).live n i made form (shaped_value s.of.globals i.ty t shaped)
              (no_undef_by i.op (values_kind (operation_kind_of i.op) i id operand)) block id (mentioned_here id operand),
          operands_fall n made form ids (λ k k_in. sub k (inr k_in)),
        )

  -- a usable value that stands in expressions
  module _ (block : ℕ) where
    abbrev pub IsUsable : ℕ → Type 0
    IsUsable = IsValueIn Where Marks block

    falls : (n : ℕ) (i : Inst) → IsUsable n → IsForwardedBy Where n i → AreBelow Ranks (Ranks n) (operand_ids i)
    falls n i v by = by_way (ways s entry right kinds o unit u p among block n v by.local)
      where
        by_way : (HasName (Found s entry right kinds o unit u p among) (Id (id n)) × (Where.form n ≡ Forwarded → ⊥)) ⊎ ((j : Inst) × ((inst_in Fn n ≡ Some j) × (Where.form n ≡ Forwarded) × ((k : ℕ) × (inst_at Fn block k ≡ Some j) × IsLive Fn Marks block k) × (type_tree s.of.globals j.ty ≡ Some v.shape))) → AreBelow Ranks (Ranks n) (operand_ids i)
        by_way (inl named) = absurd (named.1 by.form)
        by_way (inr w) =
            let same : w.0 ≡ i = same_Some w.0 i (sym w.1.0 ∙ by.there) in
            subst (λ (j : Inst). AreBelow Ranks (Ranks n) (operand_ids j)) same
            (operands_fall block w.1.2.0 w.0 w.1.2.1 (found_in (insts_of Fn) n w.0 w.1.0).0 v.mentioned.here w.1.2.2 v.shape w.1.3 n w.1.0 w.1.1 (operand_ids w.0) (λ k k_in. k_in))

    pub ranked : AreRanked Where IsUsable Ranks
    ranked = record {
      falls = falls;
      low = rank_low s.of Fn (ordered s entry right kinds o unit u p among) Marks (plan_is s entry right kinds o unit u p among).links (plan_is s entry right kinds o unit u p among).live;
    }
