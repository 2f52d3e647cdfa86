-- What is of each kind stays so where each is itself.
use Rattle.std.proofs.Common.{◌≡◌, Option, None, Some, Result, Ok, Err, IfOk, option_map, refl, sym, ◌∙◌}
use Rattle.phone_territory.specs.Kinds.{KindsOf, map_kinds}

same : {D : Type 0} (o : Option D) → option_map (λ d. d) o ≡ o
same None = refl
same (Some d) = refl

pub each_itself : {D : Type 0} (k : KindsOf D) → map_kinds (λ d. d) k ≡ k
each_itself k =
    rw (same k.general) (rw (same k.fixed_line) (rw (same k.mobile) (rw (same k.toll_free) (rw (same k.premium_rate) (rw (same k.shared_cost) (rw (same k.personal_number) (rw (same k.voip) (rw (same k.pager) (rw (same k.uan) (rw (same k.emergency) (rw (same k.voicemail) (rw (same k.short_code) (rw (same k.standard_rate) (rw (same k.carrier) (rw (same k.no_international) refl)))))))))))))))

pub all_told : {D E : Type 0} (r : Result (KindsOf D) E) (k : KindsOf D) → IfOk r (λ d. map_kinds (λ x. x) d ≡ k) → IfOk r (λ d. d ≡ k)
all_told (Ok d) k e = sym (each_itself d) ∙ e
all_told (Err e) k h = tt
