-- A key, as it is looked up.
use Rattle.std.specs.Prelude.{◌&&◌, Bool, nat_eq}
use Rattle.rv_text.specs.declared.message.Key.{Key}
use Rattle.rv_replies.specs.declared.findings.name.Name.{Name}

abbrev pub key_name : Key → Name
key_name key =
    record {
      epoch = key.epoch;
      client = key.client;
      incarnation = key.incarnation;
      number = key.number;
    }

abbrev pub is_named : Key → Name → Bool
is_named key name =
    nat_eq key.epoch name.epoch
    && (nat_eq key.client name.client
    && (nat_eq key.incarnation name.incarnation && nat_eq key.number name.number))
