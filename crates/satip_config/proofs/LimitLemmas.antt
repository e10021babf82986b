-- What holds of every configuration, from its definition.
use Rattle.std.proofs.Common.{◌≡◌, ◌==◌, ℕ, ◌≤◌, Bool, List, [], length, map, Option, Some, None, Result, Ok, Err, IfOk, All, refl, ap, subst, sym, ◌∙◌, arith}
use Rattle.std.specs.List.{range_with_len, list_any}
use Rattle.std.proofs.lemmas.List.{length-map}
use Rattle.std.proofs.lemmas.List.FromFn.{length-map-range_with_len}
use Rattle.std.proofs.lemmas.List.Elements.{All-nil, All-map}
use Rattle.toml.specs.Data.{Data, Members, as_integer, as_str}
use Rattle.satip_tune.specs.declared.frontends.Front.{Front}
use Rattle.satip_tune.specs.declared.frontends.Mux.{Mux}
use Rattle.satip_tune.specs.Words.{pol_named, system_named}
use Rattle.satip_base.specs.Numbers.{ip_of}
use Rattle.satip_config.specs.declared.fault.ConfigFault.{ConfigFault}
use Rattle.satip_config.specs.declared.key.ConfigKey.{ConfigKey}
use Rattle.satip_config.specs.declared.key.ConfigName.TheVariants as names
use Rattle.satip_config.specs.Keys.{top_key, front_key, mux_key}
use Rattle.satip_config.specs.Steps.{Reading, Reads, ◌>>=◌, counted}
use Rattle.satip_config.specs.Values.{within, khz_of, value_at, number_at, number_or, word_at, array, array_at, list_in, tables_in}
use Rattle.satip_tune.specs.Configuration.{Configuration}
use Rattle.satip_config.specs.Limits.{IsWithin, HasPlaces, IsReceivable, IsFileName, IsWithinRanges}
use Rattle.satip_config.specs.Entries.{source_places, system_places, sources_in, systems_in, front_at, mux_at, entries, recordings, apart}
use Rattle.satip_config.specs.Config.{fronts_in, fronts_of, recordings_in, recordings_unless_missing, recordings_of, configuration_of}
use Rattle.satip_config.proofs.TextRanges.{khz_of-range, ip_of-range}
use Rattle.satip_config.proofs.Inverses.{bound, same_Ok, number_at-range, number_or-range, word_at-read, counted-range, tables_in-range, entries-length, entries-All, entries-numbers}

-- ---- front ends

sources_in-length : (key : ConfigKey) (values : List Data) (places : List Bool) → sources_in key values ≡ Ok places → length places ≡ 256
unfolding sources_in source_places
sources_in-length key values places h =
    bound (list_in as_integer 255 (within 1 255) key values) _ places h (λ numbers read is.
    ap length (sym (same_Ok (source_places numbers) places is)) ∙ length-map-range_with_len (λ place. list_any (λ n. n == place) numbers) 0 256)

systems_in-length : (key : ConfigKey) (values : List Data) (places : List Bool) → systems_in key values ≡ Ok places → length places ≡ 2
unfolding systems_in system_places
systems_in-length key values places h =
    bound (list_in as_str 2 system_named key values) _ places h (λ systems read is. ap length (sym (same_Ok (system_places systems) places is)))

-- the sources and the systems of a front end, at their keys
abbrev sources_at : ℕ → Members → Reading (List Bool)
sources_at n table = array_at (front_key n names.Sources) table >>= sources_in (front_key n names.Sources)

abbrev systems_at : ℕ → Members → Reading (List Bool)
systems_at n table = array_at (front_key n names.Systems) table >>= systems_in (front_key n names.Systems)

front_at-parts : {P : Type 0} (n : ℕ) (table : Members) (front : Front) → front_at n table ≡ Ok front
    → ((sources systems : List Bool) → sources_at n table ≡ Ok sources → systems_at n table ≡ Ok systems
    → record { number = n; sources = sources; systems = systems } ≡ front → P) → P
unfolding front_at
front_at-parts n table front h use_them =
    bound (sources_at n table) _ front h (λ sources read more.
    bound (systems_at n table) _ front more (λ systems read_more is.
    use_them sources systems read read_more (same_Ok (record { number = n; sources = sources; systems = systems }) front is)))

front_at-number : (n : ℕ) (table : Members) (front : Front) → front_at n table ≡ Ok front → front.number ≡ n
front_at-number n table front h = front_at-parts n table front h (λ sources systems read read_more is. ap (λ (f : Front). f.number) (sym is))

front_at-places : (n : ℕ) (table : Members) (front : Front) → front_at n table ≡ Ok front → HasPlaces front
front_at-places n table front h =
    front_at-parts n table front h (λ sources systems read read_more is.
    subst HasPlaces is (record {
      sources = bound (array_at (front_key n names.Sources) table) _ sources read (λ values found given. sources_in-length _ values sources given);
      systems = bound (array_at (front_key n names.Systems) table) _ systems read_more (λ values found given. systems_in-length _ values systems given);
    }))

pub record FrontFacts (fronts : List Front) : Type 0 where
  pub count : IsWithin 1 16 (length fronts)
  pub numbers : map (λ f. f.number) fronts ≡ range_with_len 1 (length fronts)
  pub places : All HasPlaces fronts

fronts_of-facts : (table : Members) (fronts : List Front) → fronts_of table ≡ Ok fronts → FrontFacts fronts
unfolding fronts_of fronts_in
fronts_of-facts table fronts h =
    bound (array_at (top_key names.Frontend) table) _ fronts h (λ values read more.
    bound (tables_in 1 16 (top_key names.Frontend) values) _ fronts more (λ tables found entries_read. record {
      count = rw (entries-length front_at 1 tables fronts entries_read) (tables_in-range 1 16 _ values tables found);
      numbers = entries-numbers front_at (λ f. f.number) front_at-number 1 tables fronts entries_read;
      places = entries-All front_at HasPlaces front_at-places 1 tables fronts entries_read;
    }))

-- ---- multiplexes

-- a multiplex and the name of its recording
pub record IsRecording (found : Mux × List ℕ) : Type 0 where
  pub mux : IsReceivable found.0
  pub file : IsFileName found.1

mux_at-allowed : (n : ℕ) (table : Members) (found : Mux × List ℕ) → mux_at n table ≡ Ok found → IsRecording found
unfolding mux_at
mux_at-allowed n table found h =
    bound (number_at 1 255 (mux_key n names.Src) table) _ found h (λ src src_read h2.
    bound (word_at khz_of (mux_key n names.Freq) table) _ found h2 (λ freq freq_read h3.
    bound (word_at pol_named (mux_key n names.Pol) table) _ found h3 (λ pol pol_read h4.
    bound (word_at system_named (mux_key n names.Msys) table) _ found h4 (λ msys msys_read h5.
    bound (number_at 1 99999 (mux_key n names.Sr) table) _ found h5 (λ sr sr_read h6.
    bound (word_at (counted 1 255) (mux_key n names.File) table) _ found h6 (λ file file_read is.
    subst IsRecording (same_Ok (record { src = src; freq = freq; pol = pol; msys = msys; sr = sr }, file) found is) (record {
      mux = record {
        src = number_at-range 1 255 src _ table src_read;
        freq = (let text = word_at-read khz_of _ table freq freq_read in khz_of-range text.0 freq text.1);
        sr = number_at-range 1 99999 sr _ table sr_read;
      };
      file = (let text = word_at-read (counted 1 255) _ table file file_read in counted-range 1 255 text.0 file text.1);
    })))))))

pub record MuxFacts (found : List Mux × List (List ℕ)) : Type 0 where
  pub count : length found.0 ≤ 256
  pub paired : length found.1 ≡ length found.0
  pub muxes : All IsReceivable found.0
  pub files : All IsFileName found.1

apart-facts : (each : List (Mux × List ℕ)) → length each ≤ 256 → All IsRecording each → MuxFacts (apart each)
apart-facts each few fine = record {
  count = rw length-map few;
  paired = rw (length-map, length-map);
  muxes = All-map IsReceivable (λ r. r.0) each (λ k d below. (fine k d below).mux);
  files = All-map IsFileName (λ r. r.1) each (λ k d below. (fine k d below).file);
}

no_muxes : MuxFacts ([], [])
no_muxes = record { count = omega arith; paired = refl; muxes = All-nil IsReceivable; files = All-nil IsFileName }

recordings_in-facts : (values : List Data) (found : List Mux × List (List ℕ)) → recordings_in values ≡ Ok found → MuxFacts found
unfolding recordings_in recordings
recordings_in-facts values found h =
    bound (tables_in 0 256 (top_key names.Mux) values) _ found h (λ tables read more.
    bound (entries mux_at 1 tables) _ found more (λ each each_read is.
    subst MuxFacts (same_Ok (apart each) found is)
    (apart-facts each (omega (arith, tables_in-range 0 256 _ values tables read, entries-length mux_at 1 tables each each_read))
    (entries-All mux_at IsRecording mux_at-allowed 1 tables each each_read))))

recordings_unless_missing-facts : (o : Option Data) (found : List Mux × List (List ℕ)) → recordings_unless_missing o ≡ Ok found → MuxFacts found
recordings_unless_missing-facts None found h = subst MuxFacts (same_Ok ([], []) found h) no_muxes
recordings_unless_missing-facts (Some value) found h =
    bound (array (top_key names.Mux) value) _ found h (λ values read more. recordings_in-facts values found more)

recordings_of-facts : (table : Members) (found : List Mux × List (List ℕ)) → recordings_of table ≡ Ok found → MuxFacts found
unfolding recordings_of
recordings_of-facts table found h = recordings_unless_missing-facts (value_at (top_key names.Mux) table) found h

-- ---- the configuration

-- what a caller relies on
pub record Facts (c : Configuration) : Type 0 where
  pub front_count : IsWithin 1 16 (length c.fronts)
  pub front_numbers : map (λ f. f.number) c.fronts ≡ range_with_len 1 (length c.fronts)
  pub mux_count : length c.muxes ≤ 256
  pub paired : length c.files ≡ length c.muxes
  pub ranges : IsWithinRanges c

configuration_of-facts : (table : Members) (c : Configuration) → configuration_of table ≡ Ok c → Facts c
unfolding configuration_of
configuration_of-facts table c h =
    bound (word_at ip_of (top_key names.Address) table) _ c h (λ address address_read h2.
    bound (number_or 554 1 65535 (top_key names.RtspPort) table) _ c h2 (λ rtsp rtsp_read h3.
    bound (number_or 8875 1 65535 (top_key names.HttpPort) table) _ c h3 (λ http http_read h4.
    bound (number_or 60 10 3600 (top_key names.Timeout) table) _ c h4 (λ timeout timeout_read h5.
    bound (number_or 8 1 64 (top_key names.Workers) table) _ c h5 (λ workers workers_read h6.
    bound (fronts_of table) _ c h6 (λ fronts fronts_read h7.
    bound (recordings_of table) _ c h7 (λ found found_read is.
    let front : FrontFacts fronts = fronts_of-facts table fronts fronts_read in
    let mux : MuxFacts found = recordings_of-facts table found found_read in
    subst Facts (same_Ok (record {
      address = address;
      rtsp_port = rtsp;
      http_port = http;
      timeout = timeout;
      workers = workers;
      fronts = fronts;
      muxes = found.0;
      files = found.1;
    }) c is) (record {
      front_count = front.count;
      front_numbers = front.numbers;
      mux_count = mux.count;
      paired = mux.paired;
      ranges = record {
        address = (let text = word_at-read ip_of _ table address address_read in ip_of-range text.0 address text.1);
        rtsp_port = number_or-range 554 1 65535 rtsp _ table (omega arith, omega arith) rtsp_read;
        http_port = number_or-range 8875 1 65535 http _ table (omega arith, omega arith) http_read;
        timeout = number_or-range 60 10 3600 timeout _ table (omega arith, omega arith) timeout_read;
        workers = number_or-range 8 1 64 workers _ table (omega arith, omega arith) workers_read;
        fronts = front.places;
        muxes = mux.muxes;
        files = mux.files;
      };
    }))))))))

pub read-facts : (table : Members) (answer : Result Configuration ConfigFault) → Reads answer (configuration_of table) → IfOk answer Facts
read-facts table (Ok c) h = configuration_of-facts table c h
read-facts table (Err e) h = tt
