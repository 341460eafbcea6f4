-- What a packet is read as.
use Rattle.std.proofs.Common.{◌≡◌, ℕ, List, Result, Ok, sym, ap, subst, ◌∙◌}
use Rattle.nb_msgs.specs.Reading.{message_of}
use Rattle.nb_msgs.specs.declared.message.Message.{Message}
use Rattle.nb_msgs.specs.declared.node.To.{To}
use Rattle.nb_msgs.proofs.Messages.{message_reads_back}
use Rattle.nb_world.specs.declared.packet.Maker.{Maker}
use Rattle.nb_world.specs.declared.packet.Packet.{Packet}
use Rattle.nb_packets.specs.declared.packet.Content.{Content}
use Rattle.nb_packets.specs.declared.packet.Content.TheVariants.{Said, Raw}
use Rattle.nb_packets.specs.Parcels.{kind_in, body_in, ContentSo}

-- what a packet with a message is read as
pub said_reads : (content : Content) (maker : Maker) (whom : To) (packet : Packet) (m : Message) → record { kind = kind_in content; body = body_in content; maker = maker; to = whom } ≡ packet
    → content ≡ Said m → ContentSo content → message_of packet.kind packet.body ≡ Ok m
said_reads content maker whom packet m view is so =
    let fits : ContentSo (Said m) = subst ContentSo is so in
    subst (λ (p : Packet). message_of p.kind p.body ≡ Ok m) view (subst (λ (x : Content). message_of (kind_in x) (body_in x) ≡ Ok m) (sym is) (message_reads_back m fits.1))

-- what a packet with a kind and a body is read as
pub raw_reads : (content : Content) (maker : Maker) (whom : To) (packet : Packet) (kind : ℕ) (body read : List ℕ) (r : Result Message ℕ)
    → record { kind = kind_in content; body = body_in content; maker = maker; to = whom } ≡ packet → content ≡ Raw kind body → read ≡ body → message_of kind read ≡ r
    → message_of packet.kind packet.body ≡ r
raw_reads content maker whom packet kind body read r view is same reads =
    subst (λ (p : Packet). message_of p.kind p.body ≡ r) view
    (subst (λ (x : Content). message_of (kind_in x) (body_in x) ≡ r) (sym is) (ap (message_of kind) (sym same) ∙ reads))
