-- A chain's indexes, as the paths that pass it are written: in its own block as they are, elsewhere as they were kept; and stores.
use Rattle.std.proofs.Common.{◌≡◌, ◌+◌, ◌==◌, ◌&&◌, ◌||◌, not, ℕ, suc, Bool, true, false, List, [], ◌∷◌, map, Option, Some, inl, inr, refl, sym, ap, ◌∙◌, subst, arith, if◌then◌else◌}
use Rattle.std.specs.Prelude.{slice_get, slice_index, slice_index_or, option_and_then}
use Rattle.std.specs.List.{enumerate_from}
use Rattle.std.proofs.lemmas.Bool.{and_from, not-true}
use Rattle.spv_ops.specs.Opcode.{is, number}
use Rattle.spv_ops.specs.OpGroups.{takes_of, group_of}
use Rattle.spv_ops.specs.Operands.{is_id}
use Rattle.spv_ops.specs.Groups.{is_chain}
use Rattle.spv_ops.specs.declared.Op.{Op}
use Rattle.spv_ops.specs.declared.Op.TheVariants as code
use Rattle.spv_module.specs.Lists.{id}
use Rattle.spv_module.specs.declared.inst.Inst.{Inst}
use Rattle.spv_module.specs.declared.inst.Block.{Block}
use Rattle.spv_module.specs.declared.inst.Function.{Function}
use Rattle.spv_types.specs.Types.{type_tree}
use Rattle.spv_index.specs.Locals.{type_in}
use Rattle.conformance.specs.Rules.{Options}
use Rattle.module_semantics.specs.Setting.{Setting}
use Rattle.use_chains.specs.Slots.{inst_at, is_value, is_taken, is_label_reached, IsLive}
use Rattle.name_alloc.specs.declared.claims.Key.TheVariants.{Captured}
use Rattle.name_alloc.specs.Naming.{name_of}
use Rattle.glsl_ast.specs.Tree.{TranslationUnit}
use Rattle.access_paths.specs.Ways.{Spot, indexes, is_constant_index, captured_indexes, spot_of}
use Rattle.expr_forward.specs.Scope.{Scope}
use Rattle.expr_forward.specs.Paths.{index_expr}
use Rattle.expr_forward.specs.Statements.{captured_of}
use Rattle.expr_forward.specs.declared.kinds.InstKind.TheVariants as kind
use Rattle.function_plan.specs.Planned.{captured_numbers}
use Rattle.function_text.specs.Functions.{FunctionPlan}
use Rattle.unit_rules.specs.Translation.{Naming, text_of}
use Rattle.unit_rules.specs.Unit.{claims_by, IsUnitOf}
pub use Rattle.list_law.proofs.Lists.{behind_first as dropped}
use Rattle.list_law.proofs.Tests.{or_left}
pub use Rattle.list_law.proofs.Options.{some_unwrapped as shaped_type}
use Rattle.fits_law.specs.State.{value_shape, target_shape}
use Rattle.claim_law.specs.Uses.{Words, UsesExpr}
use Rattle.claim_law.specs.Statements.{AskKept, MeetsInst}
use Rattle.typed_law.specs.Conforms.{IsConforming}
use Rattle.claim_law.specs.Claimed.{IsIn, IsOf}
use Rattle.claim_law.proofs.Claim.Listed.{in_mapped, at_place}
use Rattle.claim_law.proofs.Claim.Named.{captured_named}
use Rattle.grammar_law.specs.Mentioned.{IsValueIn}
use Rattle.grammar_law.specs.Words.{words_of, AreOfStructs}
use Rattle.grammar_law.proofs.Unit.Lists.{in_filter, numbered_first, of_filter, of_numbered_first}
use Rattle.grammar_law.proofs.Unit.Ways.{HaveKinds, S, F, R, V, plan_is, written_is}
use Rattle.grammar_law.proofs.Unit.Steps.{IsWritable}
use Rattle.grammar_law.proofs.Unit.Chains.{AreWritable, HasWay, place_uses}
use Rattle.grammar_law.proofs.Unit.Sets.{own_text}

-- the object of a store is a value that it mentions
store_id : (o : Op) (args : List ℕ) → is o code.Store ≡ true → is_id o args 1 ≡ true
unfolding is_id number
store_id code.Store args on = refl
store_id o args on = cc

store_value : (o : Op) → is o code.Store ≡ true → is_value o 1 ≡ true
unfolding takes_of group_of number
store_value code.Store on = refl
store_value o on = cc

store_no_phi : (o : Op) → is o code.Store ≡ true → is o code.Phi ≡ false
unfolding number
store_no_phi code.Store on = refl
store_no_phi o on = cc

-- an index is an operand
module _ (s : Setting) (entry : Option (List ℕ)) (right : IsConforming s.of entry) (kinds : HaveKinds s.of.globals) (o : Options) (unit : TranslationUnit) (u : IsUnitOf s.of o unit) (p : FunctionPlan) (among : IsIn p u.plans) (names : List (List ℕ)) (structs : AreOfStructs s.of.globals (name_of u.claimed) names) where
  abbrev Gs : List Inst
  Gs = s.of.globals

  abbrev Found : Naming
  Found = name_of u.claimed

  abbrev Fn : Function
  Fn = F s entry right kinds o unit u p among

  abbrev Marks : List Bool
  Marks = R s entry right kinds o unit u p among

  abbrev Where : Scope
  Where = V s entry right kinds o unit u p among

  abbrev W : Words
  W = words_of s.of.globals (name_of u.claimed) names

  abbrev Writable : Spot → ℕ → ℕ → Type 0
  Writable = IsWritable s entry right Fn o unit u names Where.setting.global

  abbrev AllWritable : Spot → ℕ → List ℕ → Type 0
  AllWritable = AreWritable s entry right Fn o unit u names Where.setting.global

  all_writable : (spot : Spot) (k : ℕ) (ns : List ℕ) → ((j n : ℕ) → slice_get ns j ≡ Some n → Writable spot (k + j) n) → AllWritable spot k ns
  all_writable spot k [] each = tt
  all_writable spot k (n ∷ ns) each = (
    subst (λ (x : ℕ). Writable spot x n) (let same : k + 0 ≡ k = omega arith in same) (each 0 n refl),
    all_writable spot (k + 1) ns (λ j m at. subst (λ (x : ℕ). Writable spot x m) (let same : k + suc j ≡ k + 1 + j = omega arith in same) (each (suc j) m at)),
  )

  from_first : (spot : Spot) (ns : List ℕ) → ((j n : ℕ) → slice_get ns j ≡ Some n → Writable spot j n) → AllWritable spot 0 ns
  from_first spot ns each = all_writable spot 0 ns (λ j n at. subst (λ (x : ℕ). Writable spot x n) (let same : j ≡ 0 + j = omega arith in same) (each j n at))

  module _ (block : ℕ) (holder : Block) (i : Inst) (there : slice_get Fn.blocks block ≡ Some holder) (inside : IsIn i holder.insts) where
    abbrev of_it : IsOf (claims_by (S s entry right kinds o unit u p among) p) i
    of_it = record { number = block; block = holder; there = subst (λ (f : Function). slice_get f.blocks block ≡ Some holder) (sym (written_is s entry right kinds o unit u p among)) there; among = inside }

    -- in the block of the chain each index is written as it is
    pub here_writable : ((n : ℕ) → IsIn n (indexes i) → UsesExpr W (index_expr Where.setting n)) → AllWritable (spot_of block (block, i)) 0 (indexes i)
    here_writable uses = from_first (spot_of block (block, i)) (indexes i) (λ j n at. record {
      now = λ on. uses n (at_place (indexes i) j n at);
      before = λ off. absurd (never (is_constant_index Gs n) off);
    })
      where
        never : (a : Bool) → (a || (block == block)) ≡ false → ⊥
        never a off = both a (block == block) (let same : (block == block) ≡ true = grind (arith) in same) off
          where
            both : (a b : Bool) → b ≡ true → (a || b) ≡ false → ⊥
            both true b on off = cc
            both false b on off = cc

    -- where the chain is carried, an index that is no constant is kept, and its name is declared
    module _ (on : is_chain i.op ≡ true) (kept : Where.carried i.result ≡ true) where
      carried_there : p.scope.carried i.result ≡ true
      carried_there = ap (λ (w : Scope). w.carried i.result) (plan_is s entry right kinds o unit u p among).scope_is ∙ kept

      pub kept_text : (j n : ℕ) → slice_get (indexes i) j ≡ Some n → is_constant_index Gs n ≡ false → W.value (text_of Found (Captured (id i.result) j))
      kept_text j n at off = own_text s entry right kinds o unit u p among names structs (Captured (id i.result) j) (captured_named s.of o unit u p i j among of_it listed) refl refl
        where
          pair : ℕ × ℕ
          pair = (j, n)

          held : IsIn pair (captured_indexes Gs i)
          held = in_filter (λ (x : ℕ × ℕ). not (is_constant_index Gs x.1)) (enumerate_from 0 (indexes i)) (j, n) (numbered_first (indexes i) j n at) (ap not off)

          listed : IsIn j (captured_numbers Gs p.scope.carried i)
          listed = subst (λ (b : Bool). IsIn j (if b then map (λ (x : ℕ × ℕ). x.0) (captured_indexes Gs i) else [])) (sym (and_from (is_chain i.op) (p.scope.carried i.result) on carried_there)) (in_mapped (λ (x : ℕ × ℕ). x.0) (captured_indexes Gs i) (j, n) held)

      -- and elsewhere it is written so
      pub kept_writable : (printed : ℕ) → ((n : ℕ) → IsIn n (indexes i) → (is_constant_index Gs n || (block == printed)) ≡ true → UsesExpr W (index_expr Where.setting n)) → AllWritable (spot_of printed (block, i)) 0 (indexes i)
      kept_writable printed uses = from_first (spot_of printed (block, i)) (indexes i) (λ j n at. record {
        now = λ on. uses n (at_place (indexes i) j n at) on;
        before = λ off. kept_text j n at (or_left (is_constant_index Gs n) (block == printed) off);
      })

    -- what is asked where the indexes are kept
    pub chain_meets : is_chain i.op ≡ true → ((n : ℕ) → IsIn n (indexes i) → UsesExpr W (index_expr Where.setting n)) → MeetsInst W Found Where (IsValueIn Where Marks block) block i kind.Chain
    chain_meets on uses = by_kept (Where.carried i.result) refl
      where
        each : (kept : Where.carried i.result ≡ true) (ks : List (ℕ × ℕ)) → ((k : ℕ × ℕ) → IsIn k ks → IsIn k (captured_indexes Gs i)) → AskKept W Found Where (IsValueIn Where Marks block) block i ks
        each kept [] sub = tt
        each kept (k ∷ ks) sub =
            let w = of_filter (λ (x : ℕ × ℕ). not (is_constant_index Gs x.1)) (enumerate_from 0 (indexes i)) k (sub k (inl refl)) in
            let at = of_numbered_first (indexes i) k.0 k.1 w.0 in
            ((kept_text on kept k.0 k.1 at (not-true (is_constant_index Gs k.1) w.1), uses k.1 (at_place (indexes i) k.0 k.1 at)), each kept ks (λ x x_in. sub x (inr x_in)))

        by_kept : (b : Bool) → Where.carried i.result ≡ b → AskKept W Found Where (IsValueIn Where Marks block) block i (captured_of Where i)
        by_kept true kept = subst (λ (b : Bool). AskKept W Found Where (IsValueIn Where Marks block) block i (if b then captured_indexes Gs i else [])) (sym (and_from (is_chain i.op) (Where.carried i.result) on kept)) (each kept (captured_indexes Gs i) (λ x x_in. x_in))
        by_kept false kept = subst (λ (b : Bool). AskKept W Found Where (IsValueIn Where Marks block) block i (if b then captured_indexes Gs i else [])) (sym (ap (λ (b : Bool). b && Where.carried i.result) on ∙ kept)) tt

    -- a store asks for its place and its object
    pub store_meets : (place : ℕ) → is i.op code.Store ≡ true → inst_at Fn block place ≡ Some i → slice_index_or Marks block false ≡ true → IsLive Fn Marks block place → slice_get i.args 1 ≡ Some (slice_index i.args 1) → value_shape s Fn (slice_index i.args 1) ≡ target_shape s Fn (slice_index i.args 0)
        → HasWay s entry right Fn o unit u names Where.setting.global block (slice_index i.args 0) → MeetsInst W Found Where (IsValueIn Where Marks block) block i kind.Store
    store_meets place store at here live arg typed way = (
      place_uses s entry right Fn o unit u names Where.setting.global block (slice_index i.args 0) way,
      record {
        user = i;
        mentioned = record {
          place = place;
          arg = 1;
          there = at;
          here = here;
          live = live;
          slot = and_from (is_id i.op i.args 1) (is_value i.op 1 && is_taken Fn Marks i 1) (store_id i.op i.args store)
              (and_from (is_value i.op 1) (is_taken Fn Marks i 1) (store_value i.op store) (ap (λ (b : Bool). not b || is_label_reached Fn Marks (slice_index i.args 2)) (store_no_phi i.op store)));
          word = arg;
        };
        no_phi = store_no_phi i.op store;
        shape = way.whole;
        shaped = shaped_type (type_tree Gs) (type_in Gs Fn (slice_index i.args 1)) way.whole (typed ∙ (ap (option_and_then (type_tree Gs)) way.points ∙ way.members.shaped));
      },
    )
