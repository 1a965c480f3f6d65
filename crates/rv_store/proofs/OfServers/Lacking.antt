-- Want of memory may be held back for any message that came.
use Rattle.std.proofs.Common.{◌++◌, ◌∷◌, List, [], refl}
use Rattle.std.specs.List.{Contains}
use Rattle.rv_text.specs.declared.message.Message.{Message}
use Rattle.rv_text.specs.declared.answer.Answer.TheVariants.{Refused}
use Rattle.rv_text.specs.declared.answer.Refusal.TheVariants.{NoMemory}
use Rattle.rv_world.proofs.OfParts.Words.{Contains-push}
use Rattle.rv_world.specs.declared.parts.packet.Packet.{Packet}
use Rattle.rv_world.specs.parts.Events.{sender}
use Rattle.rv_store.specs.servers.crashes.Crashes.{Lacked, Server}
use Rattle.rv_store.specs.servers.crashes.Laws.{EffectsKeepServers, IsServer}
use Rattle.rv_store.specs.servers.Laws.{LacksMemory}
use Rattle.rv_store.proofs.OfServers.Servers.{contains_more, server_more}
use Rattle.rv_store.proofs.OfServers.Serving.{carried}

pub lacks_memory : EffectsKeepServers → LacksMemory
lacks_memory keep messages message server a s pasts is =
    let came : List Message = messages ++ message ∷ [] in
    let own : Packet = record { client = sender message; answer = Refused NoMemory } in
    let later : Server = record {
      stored = server.stored;
      unstored = server.unstored;
      withheld = server.withheld ++ (own, 0) ∷ [];
    } in
    let sent : Contains came message = Contains-push messages message in
    let kept : IsServer came later = (keep came server later (Lacked message)
    (server_more messages (message ∷ []) server is.server_is) sent refl).server in (
      later,
      (sent, later, refl, refl),
      record {
        server_is = kept;
        made_is = is.made_is;
        stored_is = is.stored_is;
        answers = λ n. carried server later (pasts n).frames (pasts n).answers
            (λ packet count there. contains_more server.withheld ((own, 0) ∷ []) (packet, count) there)
            (is.answers n);
      },
      record {
        packet = own;
        client_is = refl;
        body_is = refl;
        held = Contains-push server.withheld (own, 0);
      },
    )
