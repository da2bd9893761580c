-- Each call under way stands in a block that is reached.
use Rattle.std.proofs.Common.{◌≡◌, ◌++◌, ℕ, List, [], ◌∷◌, append_assoc, length, map, Some, inl, refl, sym, ap, ◌∙◌, subst}
use Rattle.std.specs.Prelude.{slice_get}
use Rattle.spv_module.specs.declared.inst.Inst.{Inst}
use Rattle.spv_module.specs.declared.inst.Block.{Block}
use Rattle.spv_module.specs.declared.inst.Function.{Function}
use Rattle.spv_index.specs.Locals.{insts_of}
use Rattle.module_semantics.specs.Setting.{Setting}
use Rattle.module_semantics.specs.State.{Held, own, value, pointer, Frame, put}
use Rattle.module_semantics.specs.Operands.{arg}
use Rattle.module_semantics.specs.Steps.{phis, behind_phis, without_based, first_insts, passed, entered}
use Rattle.module_semantics.specs.Run.{first_state}
use Rattle.agree_law.specs.Blocks.{IsOf}
use Rattle.call_law.specs.Known.{IsFunctionOf}
use Rattle.call_law.specs.Frames.{HoldsOfAll, IsClosed}
use Rattle.call_law.specs.Reached.{IsInReached, AreReached}
use Rattle.call_law.proofs.CodeKept.{of_drop, of_right, first_of, block_of, function_found, code_on}

-- what stands first in a function stands behind the phis of its first block
first_left : (bs : List Block) (b : Block) → slice_get bs 0 ≡ Some b → behind_phis b ≡ first_insts bs
first_left [] b e = cc
first_left (c ∷ bs) b e = let same : c ≡ b = cc in ap behind_phis (sym same)

-- what is next stands in the block
next_in : (b : Block) (before rest : List Inst) (i : Inst) → behind_phis b ≡ before ++ i ∷ rest → IsOf i b.insts
next_in b before rest i e = of_drop (length (phis b)) i b.insts (subst (IsOf i) (sym e) (of_right i before (i ∷ rest) (inl refl)))

module _ (s : Setting) (IsReached : Function → ℕ → Type 0) (fine : AreReached s IsReached) where
  -- the first moment of a call
  pub entered_reached : (g : Function) (hs : List Held) → IsFunctionOf g s.of.functions → IsInReached s IsReached (entered s g hs)
  unfolding entered
  entered_reached g hs is =
      let first = fine.first g is in
      record {
        code = record { of_module = is; of_function = first_of g.blocks };
        block = first.0;
        there = first.1;
        reached = first.2;
        before = [];
        left = first_left g.blocks first.0 first.1;
      }

  -- behind the next instruction
  still_there : (f e : Frame) (i : Inst) → f.rest ≡ i ∷ e.rest → e.function ≡ f.function → e.block ≡ f.block → IsInReached s IsReached f → IsInReached s IsReached e
  still_there f e i next function block at = record {
    code = record {
      of_module = subst (λ g. IsFunctionOf g s.of.functions) (sym function) at.code.of_module;
      of_function = λ j is. subst (λ g. IsOf j (insts_of g)) (sym function) (code_on s f i e.rest next at.code j is);
    };
    block = at.block;
    there = ap (λ g. slice_get g.blocks e.block) function ∙ (ap (slice_get f.function.blocks) block ∙ at.there);
    reached = subst (λ g. IsReached g e.block) (sym function) (subst (IsReached f.function) (sym block) at.reached);
    before = at.before ++ i ∷ [];
    left = at.left ∙ (ap (λ l. at.before ++ l) next ∙ sym (append_assoc at.before (i ∷ []) e.rest));
  }

  pub reached_closed : IsClosed (λ ds f. IsInReached s IsReached f) s
  reached_closed = record {
    passes = λ ds f i rest next at. still_there f (record f { rest = rest }) i next refl refl at;
    gets = λ ds f i rest v next kind at. still_there f (record f { rest = rest; ids = put f.ids i.result (value v) }) i next refl refl at;
    leads = λ ds f i rest p indexes ty next kind is have leads allowed at. still_there f (record f { rest = rest; ids = put (without_based f.function i.result f.ids) i.result (pointer p.0 (p.1 ++ indexes)) }) i next refl refl at;
    declares = λ ds f i rest v next kind has at. still_there f (record f { rest = rest; ids = put f.ids i.result (pointer (own i.result) []) }) i next refl refl at;
    stores = λ ds f n v at. record { code = record { of_module = at.code.of_module; of_function = at.code.of_function }; block = at.block; there = at.there; reached = at.reached; before = at.before; left = at.left };
    lends = λ ds f depth n v g is at. at;
    calls = λ ds f i rest g hs next kind is have at. entered_reached g (map (passed (length ds)) hs) (function_found s.of.functions (arg i 0) g is);
    goes_to = λ ds f i rest o label t b values next kind leads to is have at. record {
      code = record { of_module = at.code.of_module; of_function = block_of f.function.blocks t b is };
      block = b;
      there = is;
      reached = fine.on f at.code.of_module at.block i o label t at.there at.reached (next_in at.block at.before rest i (at.left ∙ ap (λ l. at.before ++ l) next)) kind leads to;
      before = [];
      left = refl;
    };
  }

  -- and so does the call with which a run begins
  pub first_reached : (h : ℕ) (g : Function) → IsFunctionOf g s.of.functions → HoldsOfAll h (λ ds f. IsInReached s IsReached f) (first_state s g)
  first_reached h g is = record { top = λ le. entered_reached g [] is; below = tt }
