-- The code of each call under way is the module's.
use Rattle.std.proofs.Common.{◌≡◌, ℕ, zero, suc, Bool, true, false, List, [], ◌∷◌, ◌++◌, drop, take, length, Some, inl, inr, refl, sym, subst}
use Rattle.std.specs.Prelude.{flat_map, slice_get, cond, ◌==◌, find}
use Rattle.spv_module.specs.declared.inst.Inst.{Inst}
use Rattle.spv_module.specs.declared.inst.Block.{Block}
use Rattle.spv_module.specs.declared.inst.Function.{Function}
use Rattle.spv_index.specs.Locals.{insts_of}
use Rattle.profile_rules.specs.Entry.{function_of}
use Rattle.module_semantics.specs.Setting.{Setting}
use Rattle.module_semantics.specs.State.{Held, Frame}
use Rattle.module_semantics.specs.Operands.{arg}
use Rattle.module_semantics.specs.Steps.{phis, behind_phis, first_insts, entered}
use Rattle.agree_law.specs.Blocks.{IsOf}
use Rattle.call_law.specs.Known.{IsFunctionOf, IsCode}
use Rattle.call_law.specs.Frames.{IsClosed}

of_left : (j : Inst) (xs ys : List Inst) → IsOf j xs → IsOf j (xs ++ ys)
of_left j [] ys is = absurd is
of_left j (x ∷ xs) ys (inl same) = inl same
of_left j (x ∷ xs) ys (inr is) = inr (of_left j xs ys is)

pub of_right : (j : Inst) (xs ys : List Inst) → IsOf j ys → IsOf j (xs ++ ys)
of_right j [] ys is = is
of_right j (x ∷ xs) ys is = inr (of_right j xs ys is)

pub of_drop : (n : ℕ) (j : Inst) (xs : List Inst) → IsOf j (drop n xs) → IsOf j xs
of_drop zero j xs is = is
of_drop (suc n) j [] is = is
of_drop (suc n) j (x ∷ xs) is = inr (of_drop n j xs is)

-- what stands behind the phis of a block stands in the function
pub first_of : (bs : List Block) (j : Inst) → IsOf j (first_insts bs) → IsOf j (flat_map (λ (b : Block). b.insts) bs)
first_of [] j is = is
first_of (b ∷ bs) j is = of_left j b.insts (flat_map (λ (b : Block). b.insts) bs) (of_drop (length (phis b)) j b.insts is)

pub in_block : (bs : List Block) (t : ℕ) (b : Block) → slice_get bs t ≡ Some b → (j : Inst) → IsOf j b.insts → IsOf j (flat_map (λ (b : Block). b.insts) bs)
in_block [] t b at j is = cc
in_block (c ∷ bs) zero b at j is = let same : c ≡ b = cc in subst (λ (d : Block). IsOf j (d.insts ++ flat_map (λ (b : Block). b.insts) bs)) (sym same) (of_left j b.insts (flat_map (λ (b : Block). b.insts) bs) is)
in_block (c ∷ bs) (suc t) b at j is = of_right j c.insts (flat_map (λ (b : Block). b.insts) bs) (in_block bs t b at j is)

pub block_of : (bs : List Block) (t : ℕ) (b : Block) → slice_get bs t ≡ Some b → (j : Inst) → IsOf j (behind_phis b) → IsOf j (flat_map (λ (b : Block). b.insts) bs)
block_of bs t b at j is = in_block bs t b at j (of_drop (length (phis b)) j b.insts is)

of_take : (n : ℕ) (j : Inst) (xs : List Inst) → IsOf j (take n xs) → IsOf j xs
of_take zero j xs is = absurd is
of_take (suc n) j [] is = is
of_take (suc n) j (x ∷ xs) (inl same) = inl same
of_take (suc n) j (x ∷ xs) (inr is) = inr (of_take n j xs is)

-- and so do its phis
pub phi_of : (bs : List Block) (t : ℕ) (b : Block) → slice_get bs t ≡ Some b → (j : Inst) → IsOf j (phis b) → IsOf j (flat_map (λ (b : Block). b.insts) bs)
phi_of bs t b at j is = in_block bs t b at j (of_take _ j b.insts is)

pub function_found : (fs : List Function) (id : ℕ) (g : Function) → function_of fs id ≡ Some g → IsFunctionOf g fs
function_found [] id g e = cc
function_found (f ∷ fs) id g e = by_test (f.id.0 == id) e (function_found fs id g)
  where
    by_test : (t : Bool) → cond t (Some f) (find (λ (f : Function). f.id.0 == id) fs) ≡ Some g → (function_of fs id ≡ Some g → IsFunctionOf g fs) → IsFunctionOf g (f ∷ fs)
    by_test true e later = inl (let same : f ≡ g = cc in same)
    by_test false e later = inr (later e)

module _ (s : Setting) where
  -- on behind the next instruction
  pub code_on : (f : Frame) (i : Inst) (rest : List Inst) → f.rest ≡ i ∷ rest → IsCode s f → (j : Inst) → IsOf j rest → IsOf j (insts_of f.function)
  code_on f i rest next c j is = c.of_function j (subst (IsOf j) (sym next) (inr is))

  -- the next instruction
  pub next_of : (f : Frame) (i : Inst) (rest : List Inst) → f.rest ≡ i ∷ rest → IsCode s f → IsOf i (insts_of f.function)
  next_of f i rest next c = c.of_function i (subst (IsOf i) (sym next) (inl refl))

  pub code_called : (id : ℕ) (g : Function) (hs : List Held) → function_of s.of.functions id ≡ Some g → IsCode s (entered s g hs)
  unfolding entered
  code_called id g hs is = record { of_module = function_found s.of.functions id g is; of_function = first_of g.blocks }

  pub code_closed : IsClosed (λ ds f. IsCode s f) s
  code_closed = record {
    passes = λ ds f i rest next c. record { of_module = c.of_module; of_function = code_on f i rest next c };
    gets = λ ds f i rest v next kind c. record { of_module = c.of_module; of_function = code_on f i rest next c };
    leads = λ ds f i rest p indexes ty next kind is have leads allowed c. record { of_module = c.of_module; of_function = code_on f i rest next c };
    declares = λ ds f i rest v next kind has c. record { of_module = c.of_module; of_function = code_on f i rest next c };
    stores = λ ds f n v c. record { of_module = c.of_module; of_function = c.of_function };
    lends = λ ds f depth n v g is c. c;
    calls = λ ds f i rest g hs next kind is have c. code_called (arg i 0) g _ is;
    goes_to = λ ds f i rest o label t b values next kind leads to is have c. record { of_module = c.of_module; of_function = block_of f.function.blocks t b is };
  }
