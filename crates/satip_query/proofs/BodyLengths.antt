-- How long the phrases of statuses and the bodies of refusals are.
use Rattle.std.proofs.Common.{ℕ, ◌+◌, ◌≤◌, ◌==◌, Bool, true, false, cond, List, length, arith, length-append}
use Rattle.satip_base.proofs.NumberLemmas.{length-decimal_u16}
use Rattle.satip_query.specs.Bodies.{body_text, body_part}
use Rattle.satip_query.specs.Statuses.{phrase_of}
use Rattle.satip_query.specs.declared.bodies.RefusalBody.{RefusalBody}
use Rattle.satip_query.specs.declared.bodies.RefusalBody.TheVariants.{CheckSyntax, OutOfRange, NotOwner, NoMorePids, NoMoreSessions, NoMoreFrontends}
use Rattle.satip_tune.specs.Words.{key_text}
use Rattle.satip_tune.specs.declared.keys.Key.{Key}
use Rattle.satip_tune.specs.declared.keys.Key.TheVariants.{Fe, Src, Freq, Pol, Ro, Msys, Mtype, Plts, Sr, Fec, Pids, Addpids, Delpids}

either : {n : ℕ} (b : Bool) (x y : List ℕ) → length x ≤ n → length y ≤ n → length (cond b x y) ≤ n
either true x y a b = a
either false x y a b = b

pub length-phrase_of-le : (status : ℕ) → length (phrase_of status) ≤ 30
length-phrase_of-le status =
    either (status == 200) _ _ (omega arith) (either (status == 400) _ _ (omega arith) (either (status == 403) _ _ (omega arith)
    (either (status == 404) _ _ (omega arith) (either (status == 413) _ _ (omega arith) (either (status == 454) _ _ (omega arith)
    (either (status == 455) _ _ (omega arith) (either (status == 461) _ _ (omega arith) (either (status == 501) _ _ (omega arith)
    (either (status == 503) _ _ (omega arith) (either (status == 505) _ _ (omega arith) (omega arith)))))))))))

length-key_text-le : (key : Key) → length (key_text key) ≤ 7
unfolding key_text
length-key_text-le Fe = omega arith
length-key_text-le Src = omega arith
length-key_text-le Freq = omega arith
length-key_text-le Pol = omega arith
length-key_text-le Ro = omega arith
length-key_text-le Msys = omega arith
length-key_text-le Mtype = omega arith
length-key_text-le Plts = omega arith
length-key_text-le Sr = omega arith
length-key_text-le Fec = omega arith
length-key_text-le Pids = omega arith
length-key_text-le Addpids = omega arith
length-key_text-le Delpids = omega arith

pub length-body_text-le : (body : RefusalBody) → length (body_text body) ≤ 20
unfolding body_text
length-body_text-le (CheckSyntax key) = simp length-append (omega (arith, length-key_text-le key))
length-body_text-le (OutOfRange key) = simp length-append (omega (arith, length-key_text-le key))
length-body_text-le NotOwner = omega arith
length-body_text-le NoMorePids = omega arith
length-body_text-le NoMoreSessions = omega arith
length-body_text-le NoMoreFrontends = omega arith

pub length-body_part-le : (body : RefusalBody) → length (body_part body) ≤ 128
unfolding body_part
length-body_part-le body =
    let few : length (body_text body) ≤ 20 = length-body_text-le body in
    simp length-append (omega (arith, length-decimal_u16 (length (body_text body) + 2) (omega arith)))
