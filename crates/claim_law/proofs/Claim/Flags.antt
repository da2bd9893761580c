-- In the text of a module the flags of loops and of case targets have the names of keys that are claimed.
use Rattle.std.proofs.Common.{◌≡◌, ◌<◌, ◌+◌, ◌==◌, ◌||◌, ℕ, zero, suc, Bool, true, false, List, [], ◌∷◌, Option, Some, filter, length, inl, inr, refl, sym, ap, ◌∙◌, subst, arith, if◌then◌else◌}
use Rattle.std.specs.Prelude.{slice_get}
use Rattle.std.specs.Option.{option_map_or}
use Rattle.std.specs.List.{AllZip, list_any, range_with_len}
use Rattle.spv_module.specs.State.{ModuleState}
use Rattle.spv_module.specs.Lists.{id}
use Rattle.spv_module.specs.declared.inst.Id.{Id as IdOf}
use Rattle.spv_module.specs.declared.inst.Block.{Block}
use Rattle.spv_module.specs.declared.inst.Function.{Function}
use Rattle.structure_rules.specs.Graph.{graph}
use Rattle.block_graph.proofs.Within.{graph_sized}
use Rattle.switch_ladder.specs.Flags.{blocks_that, needs_again, needs_leave, needs_fell}
use Rattle.conformance.specs.Rules.{Options}
use Rattle.name_alloc.specs.declared.claims.Key.{Key}
use Rattle.name_alloc.specs.declared.claims.Key.TheVariants.{Again, Leave, Fell}
use Rattle.name_alloc.specs.Naming.{name_of}
use Rattle.glsl_ast.specs.Tree.{Text, TranslationUnit}
use Rattle.function_plan.specs.Phis.{phi_blocks}
use Rattle.function_plan.specs.Orders.{is_among}
use Rattle.function_text.specs.Functions.{FunctionPlan, written, label_of, when, blocks_of}
use Rattle.unit_rules.specs.Translation.{Naming, text_of, IsPlanOf}
use Rattle.unit_rules.specs.Unit.{source_of, called, IsUnitOf}
use Rattle.list_law.proofs.Numbers.{same_number}
use Rattle.claim_law.specs.Claimed.{IsIn, HasName}
use Rattle.agree_law.specs.Agree.{Naming as Names, IsOther}
use Rattle.name_alloc.specs.Law.{AreNames}
use Rattle.claim_law.specs.Apart.{AreOfKeys, IsFlow}
use Rattle.claim_law.specs.Told.{told}
use Rattle.claim_law.proofs.Claim.Named.{again_named, leave_named, fell_named}
use Rattle.claim_law.proofs.Claim.Told.{named_is}
use Rattle.claim_law.proofs.Claim.Apart.{flow_is_other}

-- a block that passes is one of the function's
in_range : (test : ℕ → Bool) (from n b : ℕ) → list_any (λ u. u == b) (filter test (range_with_len from n)) ≡ true → b < from + n
in_range test from zero b on = cc
in_range test from (suc n) b on = by_test (test from) on (in_range test (from + 1) n b)
  where
    by_either : (e : Bool) → (from == b) ≡ e → (e || list_any (λ u. u == b) (filter test (range_with_len (from + 1) n))) ≡ true → (list_any (λ u. u == b) (filter test (range_with_len (from + 1) n)) ≡ true → b < from + 1 + n) → b < from + suc n
    by_either true same on later = let own : from ≡ b = same_number from b same in omega (arith, own)
    by_either false other on later = let less = later on in omega (arith, less)

    by_test : (t : Bool) → list_any (λ u. u == b) (if t then from ∷ filter test (range_with_len (from + 1) n) else filter test (range_with_len (from + 1) n)) ≡ true → (list_any (λ u. u == b) (filter test (range_with_len (from + 1) n)) ≡ true → b < from + 1 + n) → b < from + suc n
    by_test true on later = by_either (from == b) refl on later
    by_test false on later = let less = later on in omega (arith, less)

passes_inside : (test : ℕ → Bool) (f : Function) (b : ℕ) → is_among (blocks_that test (graph f)) b ≡ true → b < length f.blocks
passes_inside test f b on =
    let less = in_range test 0 (length (graph f)) b on in
    let size = graph_sized f in
    omega (arith, less, size)

pub at_inside : (blocks : List Block) (b : ℕ) → b < length blocks → (block : Block) × (slice_get blocks b ≡ Some block)
at_inside [] b less = absurd (omega (arith, less))
at_inside (x ∷ blocks) zero less = (x, refl)
at_inside (x ∷ blocks) (suc b) less = at_inside blocks b (let low : b < length blocks = omega (arith, less) in low)

-- each plan is that of a function
pub planned_as : (R : Function → FunctionPlan → Type 0) (fs : List Function) (ps : List FunctionPlan) (p : FunctionPlan) → AllZip R fs ps → IsIn p ps → (f : Function) × R f p
planned_as R [] [] p all among = absurd among
planned_as R [] (q ∷ ps) p all among = absurd all
planned_as R (f ∷ fs) [] p all among = absurd all
planned_as R (f ∷ fs) (q ∷ ps) p all (inl same) = (f, subst (R f) same all.0)
planned_as R (f ∷ fs) (q ∷ ps) p all (inr among) = planned_as R fs ps p all.1 among

module _ (m : ModuleState) (o : Options) (unit : TranslationUnit) (u : IsUnitOf m o unit) (p : FunctionPlan) (among : IsIn p u.plans) where
  abbrev found : Naming
  found = name_of u.claimed

  planned : (f : Function) × IsPlanOf (source_of m o u.entry) found f p
  planned = planned_as (IsPlanOf (source_of m o u.entry) found) (called u.order m.functions) u.plans p u.planned among

  key_is : (key : Key) → p.scope.setting.key key ≡ text_of found key
  key_is key = ap (λ w. w.setting.key key) planned.1.scope_is

  function_is : written p ≡ planned.0
  function_is = ap (λ w. w.setting.function) planned.1.scope_is

  -- the name is that of the flag's key, of a block of the function
  abbrev pub IsOfFlag : (IdOf → Key) → ℕ → Text → Type 0
  IsOfFlag make b x = (b < length (written p).blocks) × (found (make (label_of p b)) ≡ Some x)

  flag_key : (flag : ℕ → Bool) (make : IdOf → Key) (test : ℕ → Bool) → ((b : ℕ) → flag b ≡ is_among (blocks_that test (graph planned.0)) b)
      → ((b : ℕ) (block : Block) → slice_get (written p).blocks b ≡ Some block → flag b ≡ true → HasName found (make block.label))
      → (b : ℕ) (x : Text) → when (flag b) (p.scope.setting.key (make (label_of p b))) ≡ Some x → IsOfFlag make b x
  flag_key flag make test flags_are named b x is = by_flag (flag b) refl is
    where
      same_text : (y : Text) → Some y ≡ Some x → y ≡ x
      same_text y e = cc

      by_flag : (t : Bool) → flag b ≡ t → when t (p.scope.setting.key (make (label_of p b))) ≡ Some x → IsOfFlag make b x
      by_flag false off e = cc
      by_flag true on e =
          let inside : b < length (written p).blocks = subst (λ (f : Function). b < length f.blocks) (sym function_is) (passes_inside test planned.0 b (sym (flags_are b) ∙ on)) in
          let there = at_inside (written p).blocks b inside in
          let label : label_of p b ≡ there.0.label = ap (λ (y : Option Block). id (option_map_or (λ (block : Block). block.label.0) y 0)) there.1 in
          let has : HasName found (make (label_of p b)) = subst (λ (l : IdOf). HasName found (make l)) (sym label) (named b there.0 there.1 on) in
          (inside, named_is found (make (label_of p b)) has ∙ ap (λ (y : Text). Some y) (sym (key_is (make (label_of p b))) ∙ same_text (p.scope.setting.key (make (label_of p b))) e))

  -- the flags by which loops and case targets are written
  pub again_key : (b : ℕ) (x : Text) → (blocks_of p).again b ≡ Some x → IsOfFlag Again b x
  again_key = flag_key p.again Again (needs_again (graph planned.0)) planned.1.again_is (λ b block at on. again_named m o unit u p b block among at on)

  pub leave_key : (b : ℕ) (x : Text) → (blocks_of p).leave b ≡ Some x → IsOfFlag Leave b x
  leave_key = flag_key p.leave Leave (needs_leave (graph planned.0)) planned.1.leave_is (λ b block at on. leave_named m o unit u p b block among at on)

  pub fell_key : (b : ℕ) (x : Text) → (blocks_of p).fell b ≡ Some x → IsOfFlag Fell b x
  fell_key = flag_key p.fell Fell (needs_fell (graph planned.0) (phi_blocks p.scope.form planned.0)) planned.1.fell_is (λ b block at on. fell_named m o unit u p b block among at on)

  pub again_is_flow : (b : ℕ) (x : Text) → (blocks_of p).again b ≡ Some x → IsFlow found x
  again_is_flow b x is = (Again (label_of p b), refl, (again_key b x is).1)

  pub leave_is_flow : (b : ℕ) (x : Text) → (blocks_of p).leave b ≡ Some x → IsFlow found x
  leave_is_flow b x is = (Leave (label_of p b), refl, (leave_key b x is).1)

  pub fell_is_flow : (b : ℕ) (x : Text) → (blocks_of p).fell b ≡ Some x → IsFlow found x
  fell_is_flow b x is = (Fell (label_of p b), refl, (fell_key b x is).1)

-- such a name is told, and is none of the function's other names
pub flow_told : (named : Key → Option Text) (x : Text) → IsFlow named x → (told named).value x
flow_told named x is = inl (is.0, is.2)

pub flows_other : (named : Key → Option Text) → AreNames named → (n : Names) → AreOfKeys named n → (x : Text) → IsFlow named x → IsOther n x
flows_other named names n keys x is = flow_is_other named names n keys is.0 x is.1 is.2
