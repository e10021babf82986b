-- What a request's session does, by its id.
use Rattle.std.proofs.Common.{◌≡◌, Bool, true, false, cond, [], Option, Some, None, option_map, refl}
use Rattle.std.specs.Option.{option_map_or}
use Rattle.satip_plain.specs.Types.{Request}
use Rattle.satip_plain.specs.State.{Session, State}
use Rattle.satip_plain.specs.Sending.{settle}
use Rattle.satip_plain.specs.Steps.{accepted, hear, teardown_of}
use Rattle.satip_core.specs.Doing.{torn_down}
use Rattle.satip_core.specs.RefusalRows.{party_of}
use Rattle.satip_core.specs.Rows.{id_in}

pub id_party : (o : Option Session) → id_in (option_map party_of o) ≡ option_map (λ s. s.id) o
id_party None = refl
id_party (Some s) = refl

-- the session is heard of, by its id
pub heard_as : (b : Bool) (o : Option Session) (st : State)
    → option_map_or (λ id. hear id st) (cond b (option_map (λ (s : Session). s.id) o) None) st ≡ option_map_or (λ (s : Session). cond b (hear s.id st) st) o st
heard_as true None st = refl
heard_as false None st = refl
heard_as true (Some s) st = refl
heard_as false (Some s) st = refl

pub torn_down_as : (r : Request) (st : State) (o : Option Session)
    → torn_down r.cseq st (option_map (λ (s : Session). s.id) o) ≡ option_map_or (teardown_of r st) o (accepted (settle st) [])
torn_down_as r st None = refl
torn_down_as r st (Some s) = refl
